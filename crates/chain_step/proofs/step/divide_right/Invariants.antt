use Rattle.std.proofs.Common.{◌≡◌, ℕ, ◌+◌, ◌-◌, ◌<◌, ◌≤◌, pos, ◌+ℤ◌, ◌≤ℤ◌}
use Rattle.whole_algebra.specs.Matrices.{at}
use Rattle.chain_step.specs.Step.{gap_at, sum_from, taken}
use Rattle.chain_step.proofs.step.divide_right.Given as goal

abbrev pub invariant-loop-m : goal.invariant-loop-m
invariant-loop-m l = record {
  value : l.slack ≡ sum_from (gap_at l.pivot l.column) (l.column + 1) (l.m - 1);
  low : pos 0 ≤ℤ l.slack;
  high : l.slack ≤ℤ pos (l.m - 1);
  diagonal : at l.row 0 ≡ at l.initial.row 0;
  right : (i : ℕ) → 1 ≤ i → i < l.m → at l.row i ≡ at l.initial.row i +ℤ taken l.pivot l.column (l.column + i);
  ahead : (i : ℕ) → l.m ≤ i → at l.row i ≡ at l.initial.row i;
  gaps : (i : ℕ) → 1 ≤ i → i < l.m → at l.gaps i ≡ at l.initial.gaps i +ℤ gap_at l.pivot l.column (l.column + i);
  gaps_ahead : (i : ℕ) → l.m ≤ i → at l.gaps i ≡ at l.initial.gaps i;
  apart : at l.gaps 0 ≡ at l.initial.gaps 0;
}
