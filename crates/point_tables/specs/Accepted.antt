-- What holds of the points of every accepted table. This project's own.
use Rattle.std.specs.Prelude.{ℕ, ℤ, ◌≡◌, ◌≤◌, ◌^◌, Bool, true, false, List, IsSome, Option, unsigned_abs}
use Rattle.std.specs.Option.{ForSome}
use Rattle.point_tables.specs.declared.part.Part.{Part}
use Rattle.point_tables.specs.declared.part.Part.TheVariants as part
use Rattle.point_tables.specs.declared.record.PointRecord.{PointRecord}
use Rattle.table_columns.specs.Names.{is_name}
use Rattle.table_columns.specs.Stored.{AreNamed}

-- whether a point has no such part
abbrev pub is_absent : Part → Bool
is_absent part.Absent = true
is_absent part.Fixed = false
is_absent (part.New limit) = false

-- the size of a coordinate is at most 10 ^ 11 mm
abbrev pub IsCoordinate : Option ℤ → Type 0
IsCoordinate given = ForSome given (λ value. unsigned_abs value ≤ 10 ^ 11)

-- a limit is from 1 to 1000 tenths of a mm
abbrev pub IsPart : Part → Type 0
IsPart given = (limit : ℕ) → given ≡ part.New limit → (1 ≤ limit) × (limit ≤ 1000)

-- the name is one, coordinates and limits are within their bounds, and a part has the coordinates that it needs
pub record IsAccepted (point : PointRecord) : Type 0 where
  pub name : is_name point.name ≡ true
  pub x : IsCoordinate point.x
  pub y : IsCoordinate point.y
  pub z : IsCoordinate point.z
  pub plane : IsPart point.plane
  pub height : IsPart point.height
  pub has_x : is_absent point.plane ≡ false → IsSome point.x
  pub has_y : is_absent point.plane ≡ false → IsSome point.y
  pub has_z : is_absent point.height ≡ false → IsSome point.z

-- at most 1000 points, each of which is one of an accepted table, with names that differ
abbrev pub ArePoints : List PointRecord → Type 0
ArePoints points = AreNamed (λ point. point.name) 1000 IsAccepted points
