-- The entries of the normal matrix of a plan: the matrix of the normal equations of least squares adjustment.
use Rattle.std.specs.Prelude.{◌≡◌, ◌==◌, ℕ, ◌<◌, ℤ, pos, ◌+ℤ◌, ◌*ℤ◌, if◌then◌else◌, Bool, List, [], ◌∷◌, count_by}
use Rattle.whole_algebra.specs.Sums.{int_sum_by}
use Rattle.geo_model.specs.Row.{RowOf, Entries, form_at, unit_at}
use Rattle.geo_model.specs.Candidate.{CandidateOf}

-- the coefficient of a linear form at an unknown
abbrev pub coefficient : Entries → ℕ → ℤ
coefficient entries i = form_at entries (unit_at i)

-- what a row adds to the entry of row i and column j: its weight times the two coefficients
abbrev pub row_entry : RowOf → ℕ → ℕ → ℤ
row_entry row i j = row.weight *ℤ (coefficient row.entries i *ℤ coefficient row.entries j)

-- what a candidate adds: the sum over its rows
abbrev pub candidate_entry : CandidateOf → ℕ → ℕ → ℤ
candidate_entry candidate i j = int_sum_by (λ row. row_entry row i j) candidate.rows

-- the entry of row i and column j of the normal matrix of a plan: the sum over the chosen candidates
abbrev pub normal_entry : List CandidateOf → List Bool → ℕ → ℕ → ℤ
normal_entry [] plan i j = pos 0
normal_entry (candidate ∷ rest) [] i j = pos 0
normal_entry (candidate ∷ rest) (chosen ∷ plan) i j =
    (if chosen then candidate_entry candidate i j else pos 0) +ℤ normal_entry rest plan i j

-- each number below n stands once in the list
abbrev pub HasEachOnce : ℕ → List ℕ → Type 0
HasEachOnce n unknowns = (i : ℕ) → i < n → count_by (λ unknown. i == unknown) unknowns ≡ 1
