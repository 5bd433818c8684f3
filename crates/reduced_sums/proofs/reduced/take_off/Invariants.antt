use Rattle.std.proofs.Common.{◌≡◌, ℕ, ◌*◌, ◌<◌, ◌≤◌, pos, ◌-ℤ◌, get_or}
use Rattle.whole_algebra.specs.Matrices.{at}
use Rattle.reduced_sums.proofs.reduced.take_off.Given as goal

-- the numbers of the candidates so far are taken off, and the others stand
abbrev pub invariant-loop-i : goal.invariant-loop-i
invariant-loop-i l = record {
  behind : (k : ℕ) → k < l.i → at l.reduced k ≡ at l.fn.reduced k -ℤ pos (l.multiplier * get_or l.coefficients k 0);
  ahead : (k : ℕ) → l.i ≤ k → at l.reduced k ≡ at l.fn.reduced k;
}
