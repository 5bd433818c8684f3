use Rattle.std.specs.Prelude.{ℕ, ℤ, ◌<◌, ◌≤◌, List, All}
use Rattle.whole_algebra.specs.Sums.{int_sum_by}
use Rattle.geo_model.specs.Row.{Displaced, RowOf, IsRow, row_energy}

-- a possible observation: its price, and its weighted rows
pub record CandidateOf : Type 0 where
  pub price : ℕ
  pub rows : List RowOf

-- what a candidate adds to the energy of a displacement
abbrev pub candidate_energy : CandidateOf → Displaced → ℤ
candidate_energy candidate x = int_sum_by (λ row. row_energy row x) candidate.rows

-- the bounds of a candidate of a network with so many unknowns (this project's own)
pub record IsCandidate (unknowns : ℕ) (candidate : CandidateOf) : Type 0 where
  pub price : candidate.price ≤ 1000000000
  pub rows : All IsRow candidate.rows
  pub columns : All (λ row. All (λ entry. entry.0 < unknowns) row.entries) candidate.rows
