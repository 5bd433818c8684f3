-- What the columns of a record are read as. This project's own.
use Rattle.std.specs.Prelude.{ℕ, ◌≡◌, ◌<◌, List, length, Option, Some}
use Rattle.std.specs.Option.{ForSome}
use Rattle.point_tables.specs.declared.record.PointRecord.{PointRecord}
use Rattle.table_columns.specs.Columns.{text_at}
use Rattle.candidate_tables.specs.declared.ends.Ends.{Ends}
use Rattle.candidate_tables.specs.declared.figures.Figures.{Figures}
use Rattle.candidate_tables.specs.declared.kind.Kind.{Kind}
use Rattle.candidate_tables.specs.CandidateTable.{deviation_of, foresight_in, height_deviation_of, kind_at, written_price}
use Rattle.candidate_tables.specs.Kinds.{kind_named}
use Rattle.candidate_tables.specs.Places.{place_in}

-- a kind is the one that a text names
abbrev pub IsKindOf : List ℕ → Kind → Type 0
IsKindOf text kind = kind_named text ≡ Some kind

-- a number is that of the point with this name
pub record IsPlaceOf (points : List PointRecord) (text : List ℕ) (place : ℕ) : Type 0 where
  pub value : place ≡ place_in points text
  pub within : place < length points

-- a number is that of the foresight, and there is none for a kind without one
pub record IsForesight (points : List PointRecord) (kind : Kind) (text : List ℕ) (place : Option ℕ) : Type 0 where
  pub value : place ≡ foresight_in points kind text
  pub within : ForSome place (λ number. number < length points)

-- the numbers are those of points
pub record AreWithin (points : List PointRecord) (from to : ℕ) (to2 : Option ℕ) : Type 0 where
  pub first : from < length points
  pub second : to < length points
  pub third : ForSome to2 (λ number. number < length points)

-- the kind and the points of a record
pub record IsEnds (points : List PointRecord) (row : List (List ℕ)) (ends : Ends) : Type 0 where
  pub kind : ends.kind ≡ kind_at row
  pub from : ends.from ≡ place_in points (text_at row 2)
  pub to : ends.to ≡ place_in points (text_at row 3)
  pub to2 : ends.to2 ≡ foresight_in points (kind_at row) (text_at row 4)
  pub within : AreWithin points ends.from ends.to ends.to2

-- the figures of a record
pub record AreFigures (kind : Kind) (row : List (List ℕ)) (figures : Figures) : Type 0 where
  pub sd : figures.sd ≡ deviation_of (text_at row 5)
  pub sdh : figures.sdh ≡ height_deviation_of kind (text_at row 6)
  pub price : figures.price ≡ written_price (text_at row 7)

-- the columns of a record after its name
pub record AreColumns (points : List PointRecord) (row : List (List ℕ)) (columns : Ends × Figures) : Type 0 where
  pub ends : IsEnds points row columns.0
  pub figures : AreFigures (kind_at row) row columns.1
