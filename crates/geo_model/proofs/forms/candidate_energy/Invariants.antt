use Rattle.std.proofs.Common.{◌≡◌, ◌≤◌, ◌*◌, ◌^◌, take}
use Rattle.std.specs.Prelude.{unsigned_abs}
use Rattle.whole_algebra.specs.Sums.{int_sum_by}
use Rattle.whole_algebra.specs.Matrices.{at}
use Rattle.geo_model.specs.Row.{row_energy}
use Rattle.geo_model.proofs.forms.candidate_energy.Given as goal

abbrev pub invariant-loop-row : goal.invariant-loop-row
invariant-loop-row l = record {
  value : l.sum ≡ int_sum_by (λ row. row_energy row (at l.x)) (take l.row-index l.rows);
  size : unsigned_abs l.sum ≤ l.row-index * (1000000 * 2 ^ 76);
}
