use Rattle.std.proofs.Common.{rules, ℕ, ◌+◌, ◌*◌, ◌<◌, ◌≤◌, ◌^◌, ◌+ℤ◌, length, FitsSigned, to_z, ap, arith}
use mir.Syntax.{w128}
use Rattle.std.specs.Prelude.{unsigned_abs}
use Rattle.std.proofs.lemmas.Int.{to_z-of_z, fits_signed_from_abs}
use Rattle.geo_model.specs.Candidate.{CandidateOf}
use Rattle.normal_matrix.specs.Entries.{candidate_entry}
use Rattle.limit_forms.proofs.exponents.full_diagonal.Goals as goal
use Rattle.whole_algebra.proofs.SumLaws.{sum_more}
use Rattle.whole_algebra.proofs.Order.{size_more}

few : (k candidates m : ℕ) → k < candidates → candidates ≤ 256 → m ≤ (k + 1) * (512 * 2 ^ 66) → m < 2 ^ 127
few k candidates m inside small le = omega arith

pub loop-candidate-preserved : goal.loop-candidate-preserved
loop-candidate-preserved c =
    let sum = to_z w128 c.loop-candidate.sum-bits in
    let value = sum_more (λ (candidate : CandidateOf). candidate_entry candidate c.args.unknown c.args.unknown) c.candidates-candidates.result.now c.loop-candidate.candidate-index c.candidate-item.result sum c.candidate_diagonal-sum.result c.loop-candidate-test.true c.candidate-item.is c.loop-candidate.invariant.value c.candidate_diagonal-sum.ensures.value in
    let size = size_more sum c.candidate_diagonal-sum.result c.loop-candidate.candidate-index (512 * 2 ^ 66) c.loop-candidate.invariant.size c.candidate_diagonal-sum.ensures.size in
    let part : FitsSigned w128 c.candidate_diagonal-sum.result = search rules in
    let long = ap length c.candidates-candidates.ensures.value in
    let bound = c.candidates-candidates.ensures.bounds.candidates in
    let whole : FitsSigned w128 (sum +ℤ c.candidate_diagonal-sum.result) = fits_signed_from_abs w128 (sum +ℤ c.candidate_diagonal-sum.result) (few c.loop-candidate.candidate-index (length c.candidates-candidates.result.now) (unsigned_abs (sum +ℤ c.candidate_diagonal-sum.result)) c.loop-candidate-test.true (omega arith) size) in
    simp to_z-of_z (record { value = value; size = size })
