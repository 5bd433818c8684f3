use Rattle.std.proofs.Common.{ℕ, ◌<◌}
use Rattle.dual_ascent.specs.Duals.{IsNamedAt}
use Rattle.dual_ascent.proofs.naming.first_named.Given as goal

abbrev pub invariant-loop-cut : goal.invariant-loop-cut
invariant-loop-cut l = (k : ℕ) → k < l.cut → IsNamedAt l.fn.network l.fn.node l.fn.pool k → ⊥
