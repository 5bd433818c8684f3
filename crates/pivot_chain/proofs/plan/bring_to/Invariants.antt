use Rattle.std.proofs.Common.{◌≡◌, ℕ, ◌<◌, slice_get}
use Rattle.normal_matrix.specs.Normal.{IsNormalOf}
use Rattle.pivot_chain.proofs.plan.bring_to.Given as goal

abbrev pub invariant-loop-i : goal.invariant-loop-i
invariant-loop-i l = record {
  sum : IsNormalOf l.network l.normal;
  done : (j : ℕ) → j < l.i → slice_get l.normal.plan j ≡ slice_get l.plan j;
}
