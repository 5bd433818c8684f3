-- What the columns of a record are read as. This project's own.
use Rattle.std.specs.Prelude.{ℕ, ℤ, ◌≡◌, List, Bool, false, not, ◌&&◌, ◌||◌, Option, is_none}
use Rattle.point_tables.specs.declared.columns.PointColumns.{PointColumns}
use Rattle.point_tables.specs.declared.part.Part.{Part}
use Rattle.point_tables.specs.Accepted.{IsCoordinate, IsPart, is_absent}
use Rattle.table_columns.specs.Columns.{is_empty, text_at}
use Rattle.point_tables.specs.PointTable.{coordinate_of, part_of}

-- a coordinate is that of a text, within its bounds, and there is none only where the text is empty
pub record IsCoordinateOf (text : List ℕ) (given : Option ℤ) : Type 0 where
  pub value : given ≡ coordinate_of text
  pub bound : IsCoordinate given
  pub empty : is_none given ≡ is_empty text

-- a part is that of a text, its limit is within its bounds, and it is absent only where the text is empty
pub record IsPartOf (text : List ℕ) (given : Part) : Type 0 where
  pub value : given ≡ part_of text
  pub bound : IsPart given
  pub empty : is_absent given ≡ is_empty text

-- whether a part lacks a coordinate that it needs
abbrev pub has_missing : PointColumns → Bool
has_missing columns =
    (not (is_absent columns.plane) && (is_none columns.x || is_none columns.y)) || (not (is_absent columns.height) && is_none columns.z)

-- the columns of a record, none of which is missing
pub record IsColumns (row : List (List ℕ)) (columns : PointColumns) : Type 0 where
  pub x : IsCoordinateOf (text_at row 1) columns.x
  pub y : IsCoordinateOf (text_at row 2) columns.y
  pub z : IsCoordinateOf (text_at row 3) columns.z
  pub plane : IsPartOf (text_at row 4) columns.plane
  pub height : IsPartOf (text_at row 5) columns.height
  pub complete : has_missing columns ≡ false
