-- The candidates table against the points: its rules, its first fault and the candidates that it stands for. This project's own.
use Rattle.std.specs.Prelude.{ℕ, ◌≡◌, refl, pos, ◌^◌, List, [], ◌∷◌, ◌++◌, not, ◌&&◌, if◌then◌else◌, codes, drop, map, nat_lt, Option, Some, None, is_none, unsigned_abs, unwrap_or}
use Rattle.std.specs.List.{list_any}
use Rattle.std.specs.Option.{option_map_or}
use Rattle.text_num.specs.Decimal.{decimal_of}
use Rattle.table_rows.specs.Faults.{Rule, TableRules, first_fault}
use Rattle.table_rows.specs.Rows.{table_rows}
use Rattle.point_tables.specs.declared.fault.FaultKind.{FaultKind}
use Rattle.point_tables.specs.declared.fault.FaultKind.TheVariants as fault
use Rattle.point_tables.specs.declared.record.PointRecord.{PointRecord}
use Rattle.point_tables.specs.Columns.{name_kinds, number_kinds, shape_of}
use Rattle.table_columns.specs.Columns.{NamedRules, is_empty, name_at, named_table, number_rules, rule, text_at}
use Rattle.table_columns.specs.Names.{is_among}
use Rattle.point_tables.specs.PointTable as points_table
use Rattle.candidate_tables.specs.declared.kind.Kind.{Kind}
use Rattle.candidate_tables.specs.declared.kind.Kind.TheVariants as kind
use Rattle.candidate_tables.specs.declared.record.CandidateRecord.{CandidateRecord}
use Rattle.candidate_tables.specs.declared.kind_rules.LineBounds.{LineBounds}
use Rattle.candidate_tables.specs.Kinds.{kind_named, rules_of}
use Rattle.candidate_tables.specs.Lines.{length_squared}
use Rattle.candidate_tables.specs.Places.{has_repeat, lacks_height, lacks_plane, named, place_in}

-- the header row
abbrev pub candidate_header : List (List ℕ)
candidate_header =
    codes "name" ∷ codes "kind" ∷ codes "from" ∷ codes "to" ∷ codes "to2" ∷ codes "sd" ∷ codes "sdh" ∷ codes "price" ∷ []

-- ---- a record read by field

-- the kind of a record, and a distance where its text names none of the kinds
unfoldable pub kind_at : List (List ℕ) → Kind
kind_at row = unwrap_or (kind_named (text_at row 1)) kind.Distance

-- the number of the foresight, if the kind has one
unfoldable pub foresight_in : List PointRecord → Kind → List ℕ → Option ℕ
foresight_in points kind text = if (rules_of kind).has_foresight then Some (place_in points text) else None

-- a standard deviation in hundredths, and 0 outside the grammar
unfoldable pub deviation_of : List ℕ → ℕ
deviation_of text = option_map_or unsigned_abs (decimal_of 2 text) 0

-- the standard deviation of the height, if the kind has one
unfoldable pub height_deviation_of : Kind → List ℕ → Option ℕ
height_deviation_of kind text = if (rules_of kind).has_height_deviation then Some (deviation_of text) else None

-- a price, and 0 outside the grammar
unfoldable pub written_price : List ℕ → ℕ
written_price text = option_map_or unsigned_abs (decimal_of 0 text) 0

-- a record read by field, against the points; it is what the record says only where no rule on it is broken
unfoldable pub candidate_record_of : List PointRecord → List (List ℕ) → CandidateRecord
candidate_record_of points row = record {
  name = name_at row;
  kind = kind_at row;
  from = place_in points (text_at row 2);
  to = place_in points (text_at row 3);
  to2 = foresight_in points (kind_at row) (text_at row 4);
  sd = deviation_of (text_at row 5);
  sdh = height_deviation_of (kind_at row) (text_at row 6);
  price = written_price (text_at row 7);
}

-- ---- the rules, in their order

-- the text is the word of a kind
unfoldable pub kind_rules : List ℕ → List (Rule FaultKind)
kind_rules text = rule (is_none (kind_named text)) fault.Kind ∷ []

-- a point has this name
unfoldable pub known_point_rules : List PointRecord → List ℕ → List (Rule FaultKind)
known_point_rules points text = rule (not (is_among text (points_table.point_names points))) fault.NoPoint ∷ []

-- a point has the name of the foresight, if the kind has one
unfoldable pub foresight_rules : List PointRecord → Kind → List ℕ → List (Rule FaultKind)
foresight_rules points kind text = if (rules_of kind).has_foresight then known_point_rules points text else []

-- the kind, and then the points that are named: from, to, and to2 if the kind has a foresight
unfoldable pub end_rules : List PointRecord → List (List ℕ) → List (Rule FaultKind)
end_rules points row =
    kind_rules (text_at row 1)
    ++ (known_point_rules points (text_at row 2)
    ++ (known_point_rules points (text_at row 3)
    ++ foresight_rules points (kind_at row) (text_at row 4)))

-- to2 is empty but for a kind with a foresight, and sdh but for one with a standard deviation of the height
unfoldable pub extra_rules : Kind → List (List ℕ) → List (Rule FaultKind)
extra_rules kind row =
    rule (not ((rules_of kind).has_foresight) && not (is_empty (text_at row 4))) fault.Extra
    ∷ rule (not ((rules_of kind).has_height_deviation) && not (is_empty (text_at row 6))) fault.Extra
    ∷ []

-- the points that are named differ, and have the parts that the kind needs
unfoldable pub needed_part_rules : List PointRecord → Kind → List ℕ → List (Rule FaultKind)
needed_part_rules points kind places =
    rule (has_repeat places) fault.SamePoint
    ∷ rule ((rules_of kind).needs_plane && list_any (lacks_plane points) places) fault.NoPlane
    ∷ rule ((rules_of kind).needs_height && list_any (lacks_height points) places) fault.NoHeight
    ∷ []

-- a square of a length against these bounds
unfoldable pub bound_rules : ℕ → LineBounds → List (Rule FaultKind)
bound_rules square bounds = rule (nat_lt square bounds.least) fault.Near ∷ rule (nat_lt bounds.greatest square) fault.Far ∷ []

-- a line by the square of its length in mm^2: it is within the bounds of the kind, if it has any
unfoldable pub length_rules : Kind → ℕ → List (Rule FaultKind)
length_rules kind square = option_map_or (bound_rules square) (rules_of kind).line []

-- the line between two points
abbrev pub line_length_rules : List PointRecord → Kind → ℕ → ℕ → List (Rule FaultKind)
line_length_rules points kind from to = length_rules kind (length_squared points from to)

-- the line to the second point, and then the line to the foresight
unfoldable pub lines_rules : List PointRecord → Kind → ℕ → ℕ → Option ℕ → List (Rule FaultKind)
lines_rules points kind from to to2 = line_length_rules points kind from to ++ option_map_or (line_length_rules points kind from) to2 []

-- the rules on what a record of this kind names: the fields it has not, the points and their parts, the lines. The kind
-- and the numbers are those of `candidate_record_of`, where an unknown kind is a distance and an unknown name is point 0, so
-- these rules say something of the record only where the rules on its kind and on its names before them hold
unfoldable pub place_rules : List PointRecord → List (List ℕ) → Kind → ℕ → ℕ → Option ℕ → List (Rule FaultKind)
place_rules points row kind from to to2 =
    extra_rules kind row ++ (needed_part_rules points kind (named from to to2) ++ lines_rules points kind from to to2)

-- a standard deviation has 2 places and is from 0.10 to 100.00
unfoldable pub deviation_rules : List ℕ → List (Rule FaultKind)
deviation_rules text = number_rules number_kinds 2 (pos 10) (pos 10000) text

-- the standard deviation of the height is one, if the kind has it
unfoldable pub height_rules : Kind → List ℕ → List (Rule FaultKind)
height_rules kind text = if (rules_of kind).has_height_deviation then deviation_rules text else []

-- a price is a whole number from 0 to 1000000000
unfoldable pub price_rules : List ℕ → List (Rule FaultKind)
price_rules text = number_rules number_kinds 0 (pos 0) (pos (10 ^ 9)) text

-- sd, then sdh if the kind has it, and price
unfoldable pub figure_rules : Kind → List (List ℕ) → List (Rule FaultKind)
figure_rules kind row = deviation_rules (text_at row 5) ++ (height_rules kind (text_at row 6) ++ price_rules (text_at row 7))

-- the rules on the columns after the name of a record that reads as this candidate
abbrev pub candidate_column_rules : List PointRecord → List (List ℕ) → CandidateRecord → List (Rule FaultKind)
candidate_column_rules points row candidate =
    end_rules points row
    ++ (place_rules points row candidate.kind candidate.from candidate.to candidate.to2
    ++ figure_rules candidate.kind row)

-- ---- the table

-- what a candidates table asks of a record: it is one of at most 256 under the header row, and has 8 fields, a name of its
-- own and these columns
abbrev pub candidate_rules : List PointRecord → NamedRules FaultKind
candidate_rules points = record {
  header = candidate_header;
  shape = shape_of 257 8;
  name = name_kinds;
  columns = λ row. candidate_column_rules points row (candidate_record_of points row);
}

-- the same as a table's
abbrev pub candidates_table : List PointRecord → TableRules FaultKind
candidates_table points = named_table (candidate_rules points)

-- the first fault of a candidates table: the number of its record, counted from 1, and its kind
unfoldable pub candidates_fault : List PointRecord → List ℕ → Option (ℕ × FaultKind)
candidates_fault points bytes = first_fault (candidates_table points) bytes

-- the candidates of a table: each record under the header row, read by field
unfoldable pub candidates_of : List PointRecord → List ℕ → List CandidateRecord
candidates_of points bytes = map (candidate_record_of points) (drop 1 (table_rows bytes))

-- the names of candidates, in their order
abbrev pub candidate_names : List CandidateRecord → List (List ℕ)
candidate_names candidates = map (λ candidate. candidate.name) candidates

-- a candidate's name is the text of its record's first field
pub candidate_record_of-name : (points : List PointRecord) (row : List (List ℕ)) → (candidate_record_of points row).name ≡ name_at row
unfolding candidate_record_of
candidate_record_of-name points row = refl
