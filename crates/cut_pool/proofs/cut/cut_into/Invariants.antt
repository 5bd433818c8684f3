use Rattle.std.proofs.Common.{◌≡◌, ℕ, ◌<◌, ◌^◌, ◌*ℤ◌, min, get_or}
use Rattle.std.specs.Prelude.{unsigned_abs}
use Rattle.whole_algebra.specs.Matrices.{at}
use Rattle.geo_model.specs.Candidate.{CandidateOf, candidate_energy}
use Rattle.cut_pool.specs.Cut.{rounded_up}
use Rattle.cut_pool.proofs.cut.cut_into.Given as goal

abbrev pub invariant-loop-i : goal.invariant-loop-i
invariant-loop-i l =
    (k : ℕ) → k < l.i → (d : CandidateOf) → get_or l.coefficients k 0 ≡ min l.bound (rounded_up (unsigned_abs (l.form-inside.alpha *ℤ candidate_energy (get_or l.candidates k d) (at l.x))) (2 ^ l.shift))
