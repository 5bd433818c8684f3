use Rattle.std.proofs.Common.{◌≡◌, ℕ, ◌<◌, ◌≤◌, length, take, ◌+ℤ◌, ◌*ℤ◌}
use Rattle.whole_algebra.specs.Grid.{entry}
use Rattle.normal_matrix.specs.Entries.{coefficient}
use Rattle.normal_matrix.proofs.sums.add_row.Given as goal

abbrev pub invariant-loop-column : goal.invariant-loop-column
invariant-loop-column l = record {
  size : length l.sums ≡ length l.initial.sums;
  sum : (i j : ℕ) → i ≤ j → j < length l.initial.sums → entry l.sums i j ≡ entry l.initial.sums i j +ℤ l.weight *ℤ (coefficient (take l.column-index l.entries) i *ℤ coefficient l.entries j);
}
