-- What holds of the rows of every accepted pair of tables. This project's own.
use Rattle.std.specs.Prelude.{ℕ, ◌≡◌, ◌<◌, ◌≤◌, ◌^◌, List, length, map, All, sum_by, unsigned_abs}
use Rattle.std.specs.List.{AllByRecursion, IsDistinct}
use Rattle.geo_model.specs.declared.network.Unknown.{Unknown}
use Rattle.geo_model.specs.Row.{RowOf, IsRow}
use Rattle.point_tables.specs.declared.record.PointRecord.{PointRecord}
use Rattle.candidate_tables.specs.declared.record.CandidateRecord.{CandidateRecord}
use Rattle.candidate_tables.specs.Kinds.{rules_of}
use Rattle.design_rows.specs.declared.term.Term.{Term}
use Rattle.design_rows.specs.Rows.{IsNumbered, rows_of}
use Rattle.design_rows.specs.Unknowns.{is_same, unknowns_of}

-- no two unknowns are the same, and there are at most four of each of 1000 points
pub record AreUnknowns (unknowns : List Unknown) : Type 0 where
  pub apart : IsDistinct is_same unknowns
  pub few : length unknowns ≤ 4000

-- the sizes of the coefficients, added up
abbrev pub total_of : List Term → ℕ
total_of terms = sum_by (λ term. unsigned_abs term.coefficient) terms

-- the bounds of an equation's terms: no component stands in two of them, and their coefficients are small
pub record AreTerms (terms : List Term) : Type 0 where
  pub apart : IsDistinct is_same (map (λ term. term.unknown) terms)
  pub short : length terms ≤ 6
  pub each : AllByRecursion (λ term. unsigned_abs term.coefficient < 2 ^ 21) terms
  pub total : total_of terms < 2 ^ 23

-- each row is within the bounds of rows, and its columns are numbers of these unknowns
pub record AreRows (unknowns : List Unknown) (rows : List RowOf) : Type 0 where
  pub each : All IsRow rows
  pub columns : All (λ row. All (λ entry. entry.0 < length unknowns) row.entries) rows

-- the unknowns of any points and candidates all differ
abbrev pub UnknownsDiffer : Type 0
UnknownsDiffer = (points : List PointRecord) (candidates : List CandidateRecord) → IsDistinct is_same (unknowns_of points candidates)

-- a candidate has as many rows as its kind gives
abbrev pub RowsAreCounted : Type 0
RowsAreCounted =
    (points : List PointRecord) (unknowns : List Unknown) (candidate : CandidateRecord) →
    length (rows_of points unknowns candidate) ≡ (rules_of candidate.kind).rows

-- the rows of a candidate of an accepted table are within the bounds of rows
abbrev pub RowsAreWithinBounds : Type 0
RowsAreWithinBounds =
    (points : List PointRecord) (unknowns : List Unknown) (candidate : CandidateRecord) → IsNumbered points unknowns candidate →
    AreRows unknowns (rows_of points unknowns candidate)
