use Rattle.std.proofs.Common.{rules, ◌≡◌, ℕ, ◌+◌, ◌*◌, ◌<◌, ◌≤◌, ◌^◌, ◌+ℤ◌, length, FitsSigned, to_z, ap, ◌∙◌, arith}
use mir.Syntax.{w128}
use Rattle.std.specs.Prelude.{unsigned_abs}
use Rattle.std.proofs.lemmas.Int.{to_z-of_z, fits_signed_from_abs}
use Rattle.whole_algebra.specs.Matrices.{at}
use Rattle.whole_algebra.proofs.SumLaws.{sum_more}
use Rattle.whole_algebra.proofs.Order.{size_more}
use Rattle.geo_model.specs.Row.{RowOf, row_energy}
use Rattle.geo_model.specs.Candidate.{CandidateOf}
use Rattle.geo_model.proofs.SumSteps.{rows_take-nonneg}
use Rattle.geo_model.proofs.forms.candidate_energy.Goals as goal

rows_few : (k rows m : ℕ) → k < rows → rows ≤ 512 → m ≤ (k + 1) * (1000000 * 2 ^ 76) → m < 2 ^ 127
rows_few k rows m inside few le = omega arith

pub loop-row-preserved : goal.loop-row-preserved
loop-row-preserved c =
    let sum = to_z w128 c.loop-row.sum-bits in
    let value = sum_more (λ (row : RowOf). row_energy row (at c.args.x.now)) c.as_slice-rows.result.now c.loop-row.row-index c.row-item.result sum c.row_energy-sum.result c.loop-row-test.true c.row-item.is c.loop-row.invariant.value c.row_energy-sum.ensures.value in
    let size = size_more sum c.row_energy-sum.result c.loop-row.row-index (1000000 * 2 ^ 76) c.loop-row.invariant.size c.row_energy-sum.ensures.size in
    let part : FitsSigned w128 c.row_energy-sum.result = search rules in
    let long : length c.as_slice-rows.result.now ≡ length c.args.candidate.now.rows = ap length c.as_slice-rows.ensures.value ∙ ap (λ (v : CandidateOf). length v.rows) c.candidate.view_is in
    let few = c.requires.few in
    let whole : FitsSigned w128 (sum +ℤ c.row_energy-sum.result) = fits_signed_from_abs w128 (sum +ℤ c.row_energy-sum.result) (rows_few c.loop-row.row-index (length c.as_slice-rows.result.now) (unsigned_abs (sum +ℤ c.row_energy-sum.result)) c.loop-row-test.true (omega arith) size) in
    simp to_z-of_z (record { value = value; size = size })

pub returns-clause-low : goal.returns-clause-low
returns-clause-low c =
    let rows = c.as_slice-rows.ensures.value ∙ ap (λ (v : CandidateOf). v.rows) c.candidate.view_is in
    rw c.loop-row.invariant.value (rw rows (rows_take-nonneg c.loop-row.row-index c.args.candidate.now.rows (at c.args.x.now) c.requires.bounds.rows))
