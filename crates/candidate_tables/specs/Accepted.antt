-- What holds of the candidates of every accepted table. This project's own.
use Rattle.std.specs.Prelude.{ℕ, ◌≡◌, ◌≢◌, ◌≤◌, ◌^◌, List, true, false, Some, is_some, slice_get}
use Rattle.std.specs.Option.{ForSome}
use Rattle.point_tables.specs.declared.record.PointRecord.{PointRecord}
use Rattle.point_tables.specs.Accepted.{is_absent}
use Rattle.table_columns.specs.Names.{is_name}
use Rattle.table_columns.specs.Stored.{AreNamed}
use Rattle.candidate_tables.specs.declared.kind.Kind.{Kind}
use Rattle.candidate_tables.specs.declared.record.CandidateRecord.{CandidateRecord}
use Rattle.candidate_tables.specs.declared.kind_rules.LineBounds.{LineBounds}
use Rattle.candidate_tables.specs.Kinds.{rules_of}
use Rattle.candidate_tables.specs.Lines.{length_squared}

-- the number is that of a point, which has the parts that the kind needs
pub record IsEnd (points : List PointRecord) (kind : Kind) (place : ℕ) : Type 0 where
  pub point : PointRecord
  pub is : slice_get points place ≡ Some point
  pub plane : (rules_of kind).needs_plane ≡ true → is_absent point.plane ≡ false
  pub height : (rules_of kind).needs_height ≡ true → is_absent point.height ≡ false

-- the square of a length is within these bounds
pub record IsSquareWithin (square : ℕ) (bounds : LineBounds) : Type 0 where
  pub least : bounds.least ≤ square
  pub greatest : square ≤ bounds.greatest

-- the line between two points is within the bounds of the kind, if it has any
abbrev pub IsLineInBounds : List PointRecord → Kind → ℕ → ℕ → Type 0
IsLineInBounds points kind from to = ForSome (rules_of kind).line (IsSquareWithin (length_squared points from to))

-- a foresight is a point other than the vertex and the backsight, on a line from the vertex within the bounds
pub record IsForesightOf (points : List PointRecord) (kind : Kind) (from to foresight : ℕ) : Type 0 where
  pub end : IsEnd points kind foresight
  pub other_from : from ≢ foresight
  pub other_to : to ≢ foresight
  pub line : IsLineInBounds points kind from foresight

-- a standard deviation is from 0.10 to 100.00
abbrev pub IsBetween : ℕ → Type 0
IsBetween hundredths = (10 ≤ hundredths) × (hundredths ≤ 10000)

-- the points that are named differ and have the parts that the kind needs, the lines and the figures are within their
-- bounds, and to2 and sdh are given exactly where the kind has them
pub record IsCandidateRecord (points : List PointRecord) (candidate : CandidateRecord) : Type 0 where
  pub name : is_name candidate.name ≡ true
  pub from : IsEnd points candidate.kind candidate.from
  pub to : IsEnd points candidate.kind candidate.to
  pub other : candidate.from ≢ candidate.to
  pub line : IsLineInBounds points candidate.kind candidate.from candidate.to
  pub has_to2 : is_some candidate.to2 ≡ (rules_of candidate.kind).has_foresight
  pub to2 : ForSome candidate.to2 (IsForesightOf points candidate.kind candidate.from candidate.to)
  pub sd : IsBetween candidate.sd
  pub has_sdh : is_some candidate.sdh ≡ (rules_of candidate.kind).has_height_deviation
  pub sdh : ForSome candidate.sdh IsBetween
  pub price : candidate.price ≤ 10 ^ 9

-- at most 256 candidates, each of which is one against these points, with names that differ
abbrev pub AreCandidates : List PointRecord → List CandidateRecord → Type 0
AreCandidates points candidates = AreNamed (λ candidate. candidate.name) 256 (IsCandidateRecord points) candidates
