use Rattle.std.proofs.Common.{◌≡◌, ◌≤◌, ◌*◌, ◌^◌, take}
use Rattle.std.specs.Prelude.{unsigned_abs}
use Rattle.whole_algebra.specs.Sums.{int_sum_by}
use Rattle.normal_matrix.specs.Entries.{row_entry}
use Rattle.limit_forms.proofs.exponents.candidate_diagonal.Given as goal

abbrev pub invariant-loop-row : goal.invariant-loop-row
invariant-loop-row l = record {
  value : l.sum ≡ int_sum_by (λ row. row_entry row l.unknown l.unknown) (take l.row-index l.rows);
  size : unsigned_abs l.sum ≤ l.row-index * 2 ^ 66;
}
