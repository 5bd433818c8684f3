use Rattle.std.specs.Prelude.{ℕ, ◌≤◌, List, [], ◌∷◌, length, nat_lt, if◌then◌else◌, Bool, true, false, Option, Some, None, option_map}
use Rattle.std.specs.List.{list_any}
use Rattle.shelf_io.specs.Files.{Files, bytes_of}
use Rattle.point_tables.specs.declared.fault.FaultKind.{FaultKind}
use Rattle.point_tables.specs.declared.fault.TableName.{TableName}
use Rattle.point_tables.specs.declared.fault.TableName.TheVariants as fault_table
use Rattle.point_tables.specs.declared.record.PointRecord.{PointRecord}
use Rattle.point_tables.specs.PointTable.{points_fault, points_of}
use Rattle.candidate_tables.specs.declared.record.CandidateRecord.{CandidateRecord}
use Rattle.candidate_tables.specs.CandidateTable.{candidates_fault, candidates_of}
use Rattle.net_build.specs.Build.{network_fault, network_of}
use Rattle.geo_model.specs.Network.{NetworkOf}
use Rattle.station_tables.specs.declared.record.StationRecord.{StationRecord}
use Rattle.station_tables.specs.Occupied.{stations_on, with_stations}
use Rattle.station_tables.specs.StationTable.{read_stations, stations_fault}
use Rattle.geoplan.specs.declared.file_kind.FileKind.{FileKind}
use Rattle.geoplan.specs.declared.file_kind.FileKind.TheVariants as kind
use Rattle.geoplan.specs.CommandOf.{CommandOf, FileOf, name_of, kinds_read, files_read}
use Rattle.geoplan.specs.Tables.{TablesOf, RefusedOf}
use Rattle.geoplan.specs.Texts.{table_word, stations_word, kind_word}

-- What the files of a command give. This project's own.

-- nothing, where no file is read; or the name of the first file that is too long; or the first fault of a table, or of the
-- network of both; or both tables with their network
pub data InputOf : Type 0 where
  no_input : InputOf
  too_long_input : List ℕ → InputOf
  refused_input : RefusedOf → InputOf
  built_input : TablesOf → InputOf

-- a file has no more bytes than it may have
abbrev pub IsFileWithin : Files → FileOf → Type 0
IsFileWithin files file = length (bytes_of files file.name) ≤ file.most

-- the name of the first of these files that is too long, and where none is what is given then
abbrev pub too_long_or : Files → List FileOf → InputOf → InputOf
too_long_or files [] given = given
too_long_or files (file ∷ later) given =
    if nat_lt file.most (length (bytes_of files file.name)) then too_long_input file.name else too_long_or files later given

-- a table is refused for a fault
abbrev pub refused_table : TableName → ℕ × FaultKind → RefusedOf
refused_table name fault = record { table = table_word name; number = fault.0; kind = kind_word fault.1 }

-- a table of stations is refused for a fault
abbrev pub refused_stations : ℕ × FaultKind → RefusedOf
refused_stations fault = record { table = stations_word; number = fault.0; kind = kind_word fault.1 }

-- the first fault of a file that is a table, by the bytes of each file. Logs and a script are no tables
abbrev pub fault_of : (FileKind → List ℕ) → FileKind → Option RefusedOf
fault_of bytes kind.Points = option_map (refused_table fault_table.Points) (points_fault (bytes kind.Points))
fault_of bytes kind.Candidates = option_map (refused_table fault_table.Candidates) (candidates_fault (points_of (bytes kind.Points)) (bytes kind.Candidates))
fault_of bytes kind.Stations = option_map refused_stations (stations_fault (points_of (bytes kind.Points)) (bytes kind.Stations))
fault_of bytes kind.Log = None
fault_of bytes kind.NewLog = None
fault_of bytes kind.Script = None

-- a refusal, and where there is none what is given then
abbrev pub refused_or : Option RefusedOf → InputOf → InputOf
refused_or None given = given
refused_or (Some refused) given = refused_input refused

-- the refusal of the first of these files that is a table with a fault, and where there is none what is given then
abbrev pub faulty_or : (FileKind → List ℕ) → List FileKind → InputOf → InputOf
faulty_or bytes [] given = given
faulty_or bytes (kind ∷ later) given = refused_or (fault_of bytes kind) (faulty_or bytes later given)

-- the network of two tables, with the stations of a third where one is given
abbrev pub equipped : NetworkOf → List PointRecord → List CandidateRecord → Option (List StationRecord) → NetworkOf
equipped network points candidates None = network
equipped network points candidates (Some stations) = with_stations network (stations_on points candidates stations)

-- what tables give where none has a fault: the fault of the network of points and candidates, or the network for the
-- redundancy, with the stations where they are given
unfoldable pub accepted_input : ℕ → List PointRecord → List CandidateRecord → Option (List StationRecord) → InputOf
accepted_input redundancy points candidates stations =
    refused_or (option_map (refused_table fault_table.Network) (network_fault points candidates))
    (built_input (record {
      points = points;
      candidates = candidates;
      redundancy = redundancy;
      network = equipped (network_of points candidates redundancy) points candidates stations;
    }))

-- whether a file is a table of stations
abbrev pub is_stations : FileKind → Bool
is_stations kind.Points = false
is_stations kind.Candidates = false
is_stations kind.Stations = true
is_stations kind.Log = false
is_stations kind.NewLog = false
is_stations kind.Script = false

-- the bytes of the table of stations, where one is among files
abbrev pub stations_among : (FileKind → List ℕ) → List FileKind → Option (List ℕ)
stations_among bytes kinds = if list_any is_stations kinds then Some (bytes kind.Stations) else None

-- what files give of which none is too long, by the bytes of each: the first fault of a table in the order of reading, else
-- what the two tables give
unfoldable pub judged_input : ℕ → (FileKind → List ℕ) → List FileKind → InputOf
judged_input redundancy bytes [] = no_input
judged_input redundancy bytes (first ∷ later) =
    faulty_or bytes (first ∷ later)
    (accepted_input redundancy (points_of (bytes kind.Points)) (candidates_of (points_of (bytes kind.Points)) (bytes kind.Candidates))
    (option_map (read_stations (points_of (bytes kind.Points))) (stations_among bytes (first ∷ later))))

-- the bytes of each file of a command, as they are held
abbrev pub bytes_held : CommandOf → Files → FileKind → List ℕ
bytes_held command files kind = bytes_of files (name_of command.sources kind)

-- what the files that a command reads give, as they are held: the first one that is too long, else what they give then
unfoldable pub input_of : CommandOf → Files → InputOf
input_of command files =
    too_long_or files (files_read command) (judged_input command.sources.redundancy (bytes_held command files) (kinds_read command))
