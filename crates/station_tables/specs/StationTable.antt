-- The table of stations against the points: its rules, its first fault and the prices that it stands for. This project's own.
use Rattle.std.specs.Prelude.{ℕ, ◌≡◌, ◌≤◌, ◌<◌, ◌^◌, ◌==◌, List, [], ◌∷◌, ◌++◌, if◌then◌else◌, codes, drop, length, map, Option, Some, None, Result, Ok, Err}
use Rattle.table_rows.specs.Faults.{Rule, TableRules, first_fault}
use Rattle.table_rows.specs.Rows.{table_rows}
use Rattle.table_columns.specs.declared.refusal.Refusal.{Refusal}
use Rattle.table_columns.specs.declared.refusal.Refusal.TheVariants as refusal
use Rattle.table_columns.specs.Columns.{name_at, record_rules, rule, text_at}
use Rattle.table_columns.specs.Names.{is_among}
use Rattle.table_columns.specs.Stored.{AreNamed}
use Rattle.point_tables.specs.declared.fault.FaultKind.{FaultKind}
use Rattle.point_tables.specs.declared.fault.FaultKind.TheVariants as fault
use Rattle.point_tables.specs.declared.record.PointRecord.{PointRecord}
use Rattle.point_tables.specs.Columns.{shape_of}
use Rattle.candidate_tables.specs.CandidateTable.{known_point_rules, written_price, price_rules}
use Rattle.candidate_tables.specs.Places.{place_in}
use Rattle.station_tables.specs.declared.fault.StationAnswer.{StationAnswer}
use Rattle.station_tables.specs.declared.fault.StationAnswer.TheVariants as answer
use Rattle.station_tables.specs.declared.record.StationRecord.{StationRecord}

-- the header row
abbrev pub station_header : List (List ℕ)
station_header = codes "name" ∷ codes "price" ∷ []

-- ---- the rules, in their order

-- no earlier record has the name
unfoldable pub repeat_rules : List ℕ → List (List ℕ) → List (Rule FaultKind)
repeat_rules name earlier = rule (is_among name earlier) fault.Twice ∷ []

-- the rules of a record by its number and the names of the earlier records: it is one of at most 1000 under the header row
-- and has 2 fields, a point has the name and no earlier record has it, and the price is one
unfoldable pub station_rules : List PointRecord → ℕ → List (List ℕ) → List (List ℕ) → List (Rule FaultKind)
station_rules points number row earlier =
    record_rules (shape_of 1001 2) number row
    ++ (known_point_rules points (name_at row)
    ++ (repeat_rules (name_at row) earlier
    ++ price_rules (text_at row 1)))

-- ---- the table

-- what a table of stations asks
abbrev pub stations_table : List PointRecord → TableRules FaultKind
stations_table points = record {
  header = station_header;
  header_kind = fault.Header;
  rules = λ number row earlier. station_rules points number row (map name_at earlier);
}

-- the first fault of a table of stations: the number of its record, counted from 1, and its kind
unfoldable pub stations_fault : List PointRecord → List ℕ → Option (ℕ × FaultKind)
stations_fault points bytes = first_fault (stations_table points) bytes

-- a record read by field, against the points; it is what the record says only where no rule on it is broken
unfoldable pub read_station : List PointRecord → List (List ℕ) → StationRecord
read_station points row = record {
  name = name_at row;
  point = place_in points (name_at row);
  price = written_price (text_at row 1);
}

-- the stations of a table: each record under the header row, read by field
unfoldable pub read_stations : List PointRecord → List ℕ → List StationRecord
read_stations points bytes = map (read_station points) (drop 1 (table_rows bytes))

-- what setting up an instrument at the point of this number costs: what its record says, and nothing where it has none
abbrev pub station_price : List StationRecord → ℕ → ℕ
station_price [] point = 0
station_price (station ∷ stations) point = if station.point == point then station.price else station_price stations point

-- ---- what was read

-- the number is that of a point, and the price is at most 10 ^ 9
pub record IsStationRecord (points : List PointRecord) (station : StationRecord) : Type 0 where
  pub point : station.point < length points
  pub price : station.price ≤ 10 ^ 9

-- at most 1000 stations, each of which is one against these points, with names that differ
abbrev pub AreStationRecords : List PointRecord → List StationRecord → Type 0
AreStationRecords points stations = AreNamed (λ station. station.name) 1000 (IsStationRecord points) stations

-- the answer of a table that was refused
abbrev pub station_answer : Refusal FaultKind → StationAnswer
station_answer (refusal.Broken number kind) = answer.Fault (record { number = number; kind = kind })
station_answer refusal.NoMemory = answer.NoMemory

-- a table has no fault and stands for what was read, or the answer is its first fault, or memory ran out
abbrev pub AnswersStations : Option (ℕ × FaultKind) → List StationRecord → Result (List StationRecord) StationAnswer → Type 0
AnswersStations fault stations (Ok read) = (fault ≡ None) × (read ≡ stations)
AnswersStations fault stations (Err (answer.Fault found)) = fault ≡ Some (found.number, found.kind)
AnswersStations fault stations (Err answer.NoMemory) = Unit {0}
