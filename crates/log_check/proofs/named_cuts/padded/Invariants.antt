use Rattle.std.proofs.Common.{◌≡◌, ◌<◌, ◌≤◌, ℕ, pos, length}
use Rattle.whole_algebra.specs.Matrices.{at}
use Rattle.log_check.proofs.named_cuts.padded.Given as goal

-- the entries so far are written, and no further unknown moves
abbrev pub invariant-loop-i : goal.invariant-loop-i
invariant-loop-i l = record {
  long : length l.moves ≡ 64;
  behind : (j : ℕ) → j < l.i → at l.moves j ≡ at l.entries j;
  ahead : (j : ℕ) → l.i ≤ j → at l.moves j ≡ pos 0;
}
