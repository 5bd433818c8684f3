use Rattle.std.specs.Prelude.{ℤ, pos, ◌+ℤ◌, if◌then◌else◌, IsTrue, Bool, List, [], ◌∷◌}
use Rattle.whole_algebra.specs.Sums.{int_sum_by}
use Rattle.geo_model.specs.Row.{Displaced}
use Rattle.geo_model.specs.Candidate.{CandidateOf, candidate_energy}

-- A plan is a list with an entry for each candidate: whether it is chosen.

-- the energy of a displacement under a plan: the sum over the rows of the chosen candidates
-- (the sum of squared weighted residuals of least squares adjustment)
abbrev pub energy : List CandidateOf → List Bool → Displaced → ℤ
energy [] plan x = pos 0
energy (candidate ∷ rest) [] x = pos 0
energy (candidate ∷ rest) (chosen ∷ plan) x =
    (if chosen then candidate_energy candidate x else pos 0) +ℤ energy rest plan x

-- the energy under the plan of all candidates
abbrev pub full_energy : List CandidateOf → Displaced → ℤ
full_energy candidates x = int_sum_by (λ candidate. candidate_energy candidate x) candidates

-- each candidate of the first plan is in the second, and the plans are as long
abbrev pub IsWithin : List Bool → List Bool → Type 0
IsWithin [] [] = Unit {0}
IsWithin [] (b ∷ bs) = ⊥
IsWithin (a ∷ rest) [] = ⊥
IsWithin (a ∷ rest) (b ∷ bs) = (IsTrue a → IsTrue b) × IsWithin rest bs
