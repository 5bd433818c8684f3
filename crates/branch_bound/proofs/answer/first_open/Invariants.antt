use Rattle.std.proofs.Common.{ℕ, ◌<◌, ℤ}
use Rattle.limit_stacks.specs.Kept.{IsVerdictsOf}
use Rattle.branch_bound.specs.Searched.{IsOpenLimit}
use Rattle.branch_bound.proofs.answer.first_open.Given as goal

abbrev pub invariant-loop-limit : goal.invariant-loop-limit
invariant-loop-limit l = record {
  verdicts : IsVerdictsOf l.fn.network l.verdicts;
  none : (k : ℕ) → k < l.limit → (step : ℕ) (lo hi : ℤ) → IsOpenLimit l.fn.network l.fn.plan k step lo hi → ⊥;
}
