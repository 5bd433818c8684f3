use Rattle.std.proofs.Common.{ℕ, ◌<◌, ◌*ℤ◌, ◌≤ℤ◌}
use Rattle.whole_algebra.specs.Matrices.{at}
use Rattle.whole_algebra.specs.Chains.{size_limit}
use Rattle.chain_step.proofs.first_row.are_small.Given as goal

abbrev pub invariant-loop-c : goal.invariant-loop-c
invariant-loop-c l = (j : ℕ) → j < l.c-index → (at l.row j *ℤ at l.row j) ≤ℤ (l.fn.head *ℤ size_limit)
