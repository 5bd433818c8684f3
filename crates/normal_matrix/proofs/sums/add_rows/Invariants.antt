use Rattle.std.proofs.Common.{◌≡◌, ℕ, ◌<◌, ◌≤◌, length, take, ◌+ℤ◌, ◌*ℤ◌}
use Rattle.whole_algebra.specs.Sums.{int_sum_by}
use Rattle.whole_algebra.specs.Grid.{entry}
use Rattle.normal_matrix.specs.Entries.{row_entry}
use Rattle.normal_matrix.proofs.sums.add_rows.Given as goal

abbrev pub invariant-loop-row : goal.invariant-loop-row
invariant-loop-row l = record {
  size : length l.sums ≡ length l.initial.sums;
  sum : (i j : ℕ) → i ≤ j → j < length l.initial.sums → entry l.sums i j ≡ entry l.initial.sums i j +ℤ l.sign *ℤ int_sum_by (λ row. row_entry row i j) (take l.row-index l.rows);
}
