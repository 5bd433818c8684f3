-- The points table: its rules, its first fault and the points that it stands for. This project's own.
use Rattle.std.specs.Prelude.{ℕ, ℤ, ◌≡◌, refl, pos, neg_ℤ, ◌^◌, List, [], ◌∷◌, ◌++◌, Bool, not, ◌&&◌, ◌||◌, if◌then◌else◌, codes, drop, map, Option, unsigned_abs}
use Rattle.std.specs.Option.{option_map_or}
use Rattle.std.specs.Str.{bytes_eq}
use Rattle.text_num.specs.Decimal.{decimal_of}
use Rattle.table_rows.specs.Faults.{Rule, TableRules, first_fault}
use Rattle.table_rows.specs.Rows.{table_rows}
use Rattle.point_tables.specs.declared.fault.FaultKind.{FaultKind}
use Rattle.point_tables.specs.declared.fault.FaultKind.TheVariants as kind
use Rattle.point_tables.specs.declared.part.Part.{Part}
use Rattle.point_tables.specs.declared.part.Part.TheVariants as part
use Rattle.point_tables.specs.declared.record.PointRecord.{PointRecord}
use Rattle.point_tables.specs.Columns.{name_kinds, number_kinds, shape_of}
use Rattle.table_columns.specs.Columns.{NamedRules, is_empty, name_at, named_table, number_rules, rule, text_at}

-- the header row
abbrev pub point_header : List (List ℕ)
point_header = codes "name" ∷ codes "x" ∷ codes "y" ∷ codes "z" ∷ codes "plane" ∷ codes "height" ∷ []

-- whether a text is `fixed`
abbrev pub is_fixed : List ℕ → Bool
is_fixed text = bytes_eq text (codes "fixed")

-- the rules of a coordinate: it is empty, or a number of metres with 3 places whose size is at most 10 ^ 11 mm
unfoldable pub coordinate_rules : List ℕ → List (Rule FaultKind)
coordinate_rules text = if is_empty text then [] else number_rules number_kinds 3 (neg_ℤ (pos (10 ^ 11))) (pos (10 ^ 11)) text

-- a coordinate in mm, and none where it is empty
unfoldable pub coordinate_of : List ℕ → Option ℤ
coordinate_of text = decimal_of 3 text

-- the rules of a part: it is empty, or `fixed`, or a limit with 1 place from 0.1 to 100.0 mm
unfoldable pub part_rules : List ℕ → List (Rule FaultKind)
part_rules text = if is_empty text || is_fixed text then [] else number_rules number_kinds 1 (pos 1) (pos 1000) text

-- a part: absent where it is empty, fixed, or new with a limit in tenths of a mm
unfoldable pub part_of : List ℕ → Part
part_of text =
    if is_empty text then part.Absent
    else (if is_fixed text then part.Fixed else part.New (option_map_or unsigned_abs (decimal_of 1 text) 0))

-- the rules on what is missing: a plane part has x and y, and a height part has z
unfoldable pub missing_rules : List (List ℕ) → List (Rule FaultKind)
missing_rules row =
    rule (not (is_empty (text_at row 4)) && (is_empty (text_at row 1) || is_empty (text_at row 2))) kind.Missing
    ∷ rule (not (is_empty (text_at row 5)) && is_empty (text_at row 3)) kind.Missing
    ∷ []

-- the rules of the columns after the name: x, y, z, plane, height
unfoldable pub point_column_rules : List (List ℕ) → List (Rule FaultKind)
point_column_rules row =
    coordinate_rules (text_at row 1)
    ++ (coordinate_rules (text_at row 2)
    ++ (coordinate_rules (text_at row 3)
    ++ (part_rules (text_at row 4)
    ++ (part_rules (text_at row 5)
    ++ missing_rules row))))

-- what a points table asks of a record: it is one of at most 1000 under the header row, and has 6 fields, a name of its
-- own and these columns
abbrev pub point_rules : NamedRules FaultKind
point_rules = record { header = point_header; shape = shape_of 1001 6; name = name_kinds; columns = point_column_rules }

-- the same as a table's
abbrev pub points_table : TableRules FaultKind
points_table = named_table point_rules

-- the first fault of a points table: the number of its record, counted from 1, and its kind
unfoldable pub points_fault : List ℕ → Option (ℕ × FaultKind)
points_fault bytes = first_fault points_table bytes

-- a record read by field
unfoldable pub point_of : List (List ℕ) → PointRecord
point_of row = record {
  name = name_at row;
  x = coordinate_of (text_at row 1);
  y = coordinate_of (text_at row 2);
  z = coordinate_of (text_at row 3);
  plane = part_of (text_at row 4);
  height = part_of (text_at row 5);
}

-- the points of a table: each record under the header row, read by field
unfoldable pub points_of : List ℕ → List PointRecord
points_of bytes = map point_of (drop 1 (table_rows bytes))

-- the names of points, in their order
abbrev pub point_names : List PointRecord → List (List ℕ)
point_names points = map (λ point. point.name) points

-- a point's name is the text of its record's first field
pub point_of-name : (row : List (List ℕ)) → (point_of row).name ≡ name_at row
unfolding point_of
point_of-name row = refl
