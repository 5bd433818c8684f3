use Rattle.std.proofs.Common.{◌≡◌, ◌<◌, ℕ, length}
use Rattle.whole_algebra.specs.Matrices.{at}
use Rattle.log_check.proofs.named_cuts.copy_moves.Given as goal

-- the unknowns so far are moved
abbrev pub invariant-loop-i : goal.invariant-loop-i
invariant-loop-i l = record {
  long : length l.x ≡ l.unknowns;
  same : (j : ℕ) → j < l.i → at l.x j ≡ at l.entries j;
}
