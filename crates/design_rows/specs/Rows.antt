-- The weighted rows of the design matrix. Source: the design matrix of least squares adjustment, with whole numbers.
use Rattle.std.specs.Prelude.{ℕ, ℤ, pos, ◌≡◌, List, Bool, not, if◌then◌else◌, map, Some, slice_get}
use Rattle.std.specs.List.{enumerate_from, filter}
use Rattle.std.specs.Ordering.{int_eq}
use Rattle.whole_algebra.specs.Sums.{int_sum_by}
use Rattle.coefficient_round.specs.Coefficient.{weight_for}
use Rattle.geo_model.specs.declared.network.Unknown.{Unknown}
use Rattle.geo_model.specs.Row.{RowOf}
use Rattle.point_tables.specs.declared.record.PointRecord.{PointRecord}
use Rattle.candidate_tables.specs.declared.record.CandidateRecord.{CandidateRecord}
use Rattle.candidate_tables.specs.Accepted.{AreCandidates}
use Rattle.design_rows.specs.declared.term.Term.{Term}
use Rattle.design_rows.specs.Equations.{Equation, equations_of}
use Rattle.design_rows.specs.Unknowns.{is_same, unknowns_of}

-- the coefficient of an unknown: the sum of those of its terms
unfoldable pub coefficient_at : List Term → Unknown → ℤ
coefficient_at terms wanted = int_sum_by (λ term. if is_same wanted term.unknown then term.coefficient else pos 0) terms

-- whether an entry is not 0
abbrev pub is_entry : ℕ × ℤ → Bool
is_entry (column, coefficient) = not (int_eq coefficient (pos 0))

-- the entries of a row: the coefficient of each unknown at its number, without those that are 0. What is no unknown, as a
-- fixed coordinate, has no entry.
unfoldable pub entries_of : List Unknown → List Term → List (ℕ × ℤ)
entries_of unknowns terms = filter is_entry (map (λ column. (column.0, coefficient_at terms column.1)) (enumerate_from 0 unknowns))

-- the row of an equation
abbrev pub row_of : List Unknown → Equation → RowOf
row_of unknowns equation = record { entries = entries_of unknowns equation.terms; weight = weight_for equation.deviation }

-- the rows of a candidate: one of each of its equations
unfoldable pub rows_of : List PointRecord → List Unknown → CandidateRecord → List RowOf
rows_of points unknowns candidate = map (row_of unknowns) (equations_of points candidate)

-- the unknowns are those of these points and of an accepted candidates table, and this candidate is one of that table
pub record IsNumbered (points : List PointRecord) (unknowns : List Unknown) (candidate : CandidateRecord) : Type 0 where
  pub candidates : List CandidateRecord
  pub accepted : AreCandidates points candidates
  pub place : ℕ
  pub member : slice_get candidates place ≡ Some candidate
  pub numbered : unknowns ≡ unknowns_of points candidates
