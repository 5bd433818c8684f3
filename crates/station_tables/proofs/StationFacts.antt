-- Which rule of a record of a table of stations is broken first, and what was read of it.
use Rattle.std.proofs.Common.{◌≡◌, ◌∙◌, ◌≤◌, ◌^◌, ℕ, ℤ, pos, true, List, Option, Some, None, refl, sym, subst, arith}
use Rattle.std.specs.Prelude.{Err, slice_get, unsigned_abs}
use Rattle.std.proofs.lemmas.Int.{ints}
use Rattle.std.proofs.lemmas.Option.{slice_get-map}
use Rattle.table_rows.specs.Faults.{first_broken}
use Rattle.table_rows.proofs.FaultFacts.{first_broken-left}
use Rattle.table_columns.specs.Columns.{IsNumber, name_at, name_rules, record_rules, text_at}
use Rattle.table_columns.specs.Names.{is_name}
use Rattle.table_columns.specs.Read.{AnswersBy}
use Rattle.table_columns.specs.declared.refusal.Refusal.{Refusal}
use Rattle.table_columns.specs.declared.refusal.Refusal.TheVariants as refusal
use Rattle.table_columns.proofs.RecordFacts.{past}
use Rattle.point_tables.specs.declared.fault.FaultKind.{FaultKind}
use Rattle.point_tables.specs.declared.record.PointRecord.{PointRecord}
use Rattle.point_tables.specs.Columns.{name_kinds, shape_of}
use Rattle.point_tables.specs.PointTable.{point_names}
use Rattle.candidate_tables.specs.CandidateTable.{known_point_rules, written_price, price_rules}
use Rattle.candidate_tables.specs.Places.{place_in}
use Rattle.station_tables.specs.declared.record.StationRecord.{StationRecord}
use Rattle.station_tables.specs.StationTable.{AnswersStations, read_station, repeat_rules, station_answer, station_rules}

-- ---- the rules of a record, one part after the other

module _ (points : List PointRecord) (number : ℕ) (row earlier : List (List ℕ)) where
  pub broken-shape : (kind : FaultKind) → first_broken (record_rules (shape_of 1001 2) number row) ≡ Some kind
      → first_broken (station_rules points number row earlier) ≡ Some kind
  unfolding station_rules
  broken-shape kind e = first_broken-left _ _ kind e

  pub broken-point : (kind : FaultKind) → first_broken (record_rules (shape_of 1001 2) number row) ≡ None → first_broken (known_point_rules points (name_at row)) ≡ Some kind
      → first_broken (station_rules points number row earlier) ≡ Some kind
  unfolding station_rules
  broken-point kind e f = past _ _ _ e (first_broken-left _ _ kind f)

  pub broken-repeat : (kind : FaultKind) → first_broken (record_rules (shape_of 1001 2) number row) ≡ None → first_broken (known_point_rules points (name_at row)) ≡ None
      → first_broken (repeat_rules (name_at row) earlier) ≡ Some kind → first_broken (station_rules points number row earlier) ≡ Some kind
  unfolding station_rules
  broken-repeat kind e f g = past _ _ _ e (past _ _ _ f (first_broken-left _ _ kind g))

  pub broken-price : (found : Option FaultKind) → first_broken (record_rules (shape_of 1001 2) number row) ≡ None → first_broken (known_point_rules points (name_at row)) ≡ None
      → first_broken (repeat_rules (name_at row) earlier) ≡ None → first_broken (price_rules (text_at row 1)) ≡ found
      → first_broken (station_rules points number row earlier) ≡ found
  unfolding station_rules
  broken-price found e f g h = past _ _ _ e (past _ _ _ f (past _ _ _ g h))

-- of a text that is a name the rules of a name ask no more than that it is new
pub repeat-is : (name : List ℕ) (earlier : List (List ℕ)) (found : Option FaultKind) → is_name name ≡ true → first_broken (name_rules name_kinds name earlier) ≡ found
    → first_broken (repeat_rules name earlier) ≡ found
unfolding name_rules repeat_rules first_broken
repeat-is name earlier found e f = rw e at f

-- ---- what was read

-- the text of the point that was found is a name
pub found-named : (points : List PointRecord) (place : ℕ) (text : List ℕ) (point : PointRecord) → slice_get (point_names points) place ≡ Some text
    → slice_get points place ≡ Some point → is_name point.name ≡ true → is_name text ≡ true
found-named points place text point named at is =
    let e : Some point.name ≡ Some text = sym (slice_get-map (λ (p : PointRecord). p.name) points place ∙ rw at refl) ∙ named in
    let same : point.name ≡ text = cc in
    subst (λ name. is_name name ≡ true) same is

-- a price is at most 10 ^ 9
pub price-few : (text : List ℕ) (value : ℤ) (size : ℕ) → IsNumber 0 (pos 0) (pos (10 ^ 9)) text value → size ≡ unsigned_abs value → size ≤ 10 ^ 9
price-few text value size is same =
    let low = is.low in
    let high = is.high in
    grind (arith, ints)

-- what a record is read as
pub station-read : (points : List PointRecord) (row : List (List ℕ)) (name : List ℕ) (point price : ℕ) → name ≡ name_at row → point ≡ place_in points (name_at row)
    → price ≡ written_price (text_at row 1) → record { name = name; point = point; price = price } ≡ read_station points row
unfolding read_station
station-read points row name point price named placed priced = rw (named, placed, priced) refl

-- a record's name is the text of its first field
pub station-name : (points : List PointRecord) (row : List (List ℕ)) → (read_station points row).name ≡ name_at row
unfolding read_station
station-name points row = refl

-- what a table answers that was refused
pub stations-refused : (fault : Option (ℕ × FaultKind)) (stations : List StationRecord) (refused : Refusal FaultKind)
    → AnswersBy {R = List StationRecord} (λ read. read) fault stations (Err refused) → AnswersStations fault stations (Err (station_answer refused))
stations-refused fault stations (refusal.Broken number broken) answers = answers
stations-refused fault stations refusal.NoMemory answers = tt
