use Rattle.std.specs.Prelude.{◌≡◌, ℕ, ◌<◌, ◌≤◌, ◌∷◌, ◌++◌, Bool, List, [], length, drop, All, map, Option, Some, None, option_map}
use Rattle.std.specs.List.{AllByRecursion}
use Rattle.std.specs.Option.{ForSome}
use Rattle.shelf_io.specs.Files.{Files, bytes_of}
use Rattle.shelf_io.specs.Faults.{Rose, KeepsFaults, read_of}
use Rattle.shelf_io.specs.States.{ShelfState}
use Rattle.geo_model.specs.Network.{IsNetwork}
use Rattle.geo_model.specs.Meeting.{MeetsLimits}
use Rattle.covariance_words.specs.Meaning.{HoldsAndIsPrecise}
use Rattle.plan_report.specs.Reported.{IsNetworkFor}
use Rattle.point_tables.specs.declared.fault.TableName.TheVariants as fault_table
use Rattle.point_tables.specs.PointTable.{points_fault, points_of}
use Rattle.candidate_tables.specs.CandidateTable.{candidates_fault, candidates_of}
use Rattle.point_tables.specs.declared.fault.TableAnswer.{TableAnswer}
use Rattle.point_tables.specs.declared.fault.TableAnswer.TheVariants as answer
use Rattle.point_tables.specs.declared.record.PointRecord.{PointRecord}
use Rattle.station_tables.specs.declared.record.StationRecord.{StationRecord}
use Rattle.station_tables.specs.declared.fault.StationAnswer.{StationAnswer}
use Rattle.station_tables.specs.declared.fault.StationAnswer.TheVariants as station_answer
use Rattle.station_tables.specs.StationTable.{read_stations, stations_fault}
use Rattle.geoplan.specs.declared.file_kind.FileKind.{FileKind}
use Rattle.geoplan.specs.declared.file_kind.FileKind.TheVariants as kind
use Rattle.geoplan.specs.declared.judge_fault.JudgeFault.{JudgeFault}
use Rattle.geoplan.specs.declared.judge_fault.JudgeFault.TheVariants as judge
use Rattle.geoplan.specs.declared.load.LoadFault.{LoadFault}
use Rattle.geoplan.specs.declared.load.LoadFault.TheVariants as load
use Rattle.geoplan.specs.declared.refused_table.RefusedTable.{RefusedTable}
use Rattle.geoplan.specs.declared.verb.Verb.{Verb}
use Rattle.geoplan.specs.CommandOf.{SourcesOf, CommandOf, FileOf, reads, name_of, file_of, stations_kind, behind_tables, files_read}
use Rattle.geoplan.specs.Ends.{AreHeldTables}
use Rattle.geoplan.specs.Input.{InputOf, too_long_input, refused_input, built_input, refused_table, refused_stations, refused_or, IsFileWithin, accepted_input, judged_input, input_of}
use Rattle.geoplan.specs.Tables.{TablesOf, RefusedOf}

-- What reading the files of a command does. Only private clauses and proofs cite it. This project's own.

abbrev pub refused_view : RefusedTable → RefusedOf
refused_view refused = record { table = refused.table.now; number = refused.number; kind = refused.kind.now }

-- a plan that meets the limits of tables is as precise as they ask
abbrev pub Means : TablesOf → Type 0
Means tables = (plan : List Bool) → MeetsLimits tables.network plan → HoldsAndIsPrecise tables.points tables.network tables.redundancy plan

-- the network of the tables keeps the bounds of networks, has their candidates, its unknowns are of their points, its limits
-- mean what they say, and it is the one that a report is of
pub record IsGoodNetwork (tables : TablesOf) : Type 0 where
  pub bounds : IsNetwork tables.network
  pub named : length tables.candidates ≡ length tables.network.candidates
  pub placed : All (λ unknown. unknown.point < length tables.points) tables.network.unknowns
  pub means : Means tables
  pub reported : IsNetworkFor tables.points tables.candidates tables.redundancy tables.network

-- ---- the tables

-- the refusal of a table of stations, where one is given, for its first fault
abbrev pub stations_refusal : List PointRecord → Option (List ℕ) → Option RefusedOf
stations_refusal points None = None
stations_refusal points (Some stations) = option_map refused_stations (stations_fault points stations)

-- what the bytes of two tables give, and of a table of stations where one is given
unfoldable pub tables_input : ℕ → List ℕ → List ℕ → Option (List ℕ) → InputOf
tables_input redundancy points candidates stations =
    refused_or (option_map (refused_table fault_table.Points) (points_fault points))
    (refused_or (option_map (refused_table fault_table.Candidates) (candidates_fault (points_of points) candidates))
    (refused_or (stations_refusal (points_of points) stations)
    (accepted_input redundancy (points_of points) (candidates_of (points_of points) candidates) (option_map (read_stations (points_of points)) stations))))

-- why tables were not accepted, by the answer for one of them
abbrev pub judged_table : TableAnswer → JudgeFault
judged_table (answer.Fault fault) = judge.Table fault
judged_table answer.NoMemory = judge.NoMemory

abbrev pub judged_stations : StationAnswer → JudgeFault
judged_stations (station_answer.Fault fault) = judge.Stations fault
judged_stations station_answer.NoMemory = judge.NoMemory

-- the refusal that tables give, or memory ran out
abbrev pub IsRefusal : InputOf → JudgeFault → Type 0
IsRefusal given (judge.Table fault) = given ≡ refused_input (refused_table fault.table (fault.number, fault.kind))
IsRefusal given (judge.Stations fault) = given ≡ refused_input (refused_stations (fault.number, fault.kind))
IsRefusal given judge.NoMemory = Unit {0}

-- the refusal that is shown is that of the fault, and none is where memory ran out
abbrev pub IsShownAs : JudgeFault → Option RefusedTable → Type 0
IsShownAs (judge.Table fault) (Some refused) = refused_view refused ≡ refused_table fault.table (fault.number, fault.kind)
IsShownAs (judge.Table fault) None = ⊥
IsShownAs (judge.Stations fault) (Some refused) = refused_view refused ≡ refused_stations (fault.number, fault.kind)
IsShownAs (judge.Stations fault) None = ⊥
IsShownAs judge.NoMemory (Some refused) = ⊥
IsShownAs judge.NoMemory None = Unit {0}

-- a table of stations, where one is given, has no fault and was read as these stations
pub record ReadsStations (points : List PointRecord) (bytes : Option (List ℕ)) (stations : Option (List StationRecord)) : Type 0 where
  pub faultless : stations_refusal points bytes ≡ None
  pub read : stations ≡ option_map (read_stations points) bytes

-- it has a first fault, and this is its refusal, or memory ran out
abbrev pub RefusesStations : List PointRecord → Option (List ℕ) → JudgeFault → Type 0
RefusesStations points bytes (judge.Table fault) = ⊥
RefusesStations points bytes (judge.Stations fault) = stations_refusal points bytes ≡ Some (refused_stations (fault.number, fault.kind))
RefusesStations points bytes judge.NoMemory = Unit {0}

-- the bytes of two tables, and of a table of stations where one is given
pub record TableBytesOf : Type 0 where
  pub points : List ℕ
  pub candidates : List ℕ
  pub stations : Option (List ℕ)

-- what they give
abbrev pub judged_bytes : ℕ → TableBytesOf → InputOf
judged_bytes redundancy bytes = tables_input redundancy bytes.points bytes.candidates bytes.stations

-- ---- one file

-- the bytes that were read are those that the shelf holds, within the limit
abbrev pub HasBytes : FileOf → List ℕ → Option Files → Type 0
HasBytes file bytes held = (length bytes ≤ file.most) × ForSome held (λ files. bytes ≡ bytes_of files file.name)

-- a file was read, and no fault was counted
pub record ReadsFile (file : FileOf) (bytes : List ℕ) (before now : ShelfState) : Type 0 where
  pub has : HasBytes file bytes before.held
  pub held : now.held ≡ before.held
  pub quiet : KeepsFaults before now

-- the read of the name failed
pub record FailsAt (name : List ℕ) (before now : ShelfState) : Type 0 where
  pub rose : Rose before.faults now.faults
  pub last : now.last_fault ≡ Some (read_of name)

-- why a file was not read
abbrev pub HasReadFault : FileOf → LoadFault → ShelfState → ShelfState → Type 0
HasReadFault file (load.TooLong other) before now = (other.now ≡ file.name) × ForSome before.held (λ files. file.most < length (bytes_of files file.name)) × KeepsFaults before now
HasReadFault file (load.Unread other) before now = (other.now ≡ file.name) × FailsAt file.name before now
HasReadFault file (load.Refused refused) before now = ⊥
HasReadFault file load.NoMemory before now = KeepsFaults before now

-- a file was not read: it is too long, its read failed, or memory ran out and no fault was counted
pub record FailsRead (file : FileOf) (why : LoadFault) (before now : ShelfState) : Type 0 where
  pub held : now.held ≡ before.held
  pub later : before.faults ≤ now.faults
  pub cause : HasReadFault file why before now

-- ---- the files of a command

-- files were read one after another, and no fault was counted
pub record ReadsAll (files : List FileOf) (before now : ShelfState) : Type 0 where
  pub within : ForSome before.held (λ held. AllByRecursion (IsFileWithin held) files)
  pub held : now.held ≡ before.held
  pub quiet : KeepsFaults before now

-- the kinds of the files that a command reads after the two tables
abbrev pub more_kinds : Verb → List FileKind
more_kinds verb = drop 2 (reads verb)

-- at most one kind
abbrev pub listed : Option FileKind → List FileKind
listed None = []
listed (Some kind) = kind ∷ []

-- a command reads the two tables first, and they are what is judged, with a table of stations where one is given
pub record ReadsTables (verb : Verb) : Type 0 where
  pub first : reads verb ≡ kind.Points ∷ kind.Candidates ∷ more_kinds verb
  pub judged : (redundancy : ℕ) (bytes : FileKind → List ℕ) (stations : Option (List ℕ)) →
      judged_input redundancy bytes (behind_tables (reads verb) stations)
      ≡ tables_input redundancy (bytes kind.Points) (bytes kind.Candidates) (option_map (λ name. bytes kind.Stations) stations)

-- the files that are read after the two tables
abbrev pub more_read : CommandOf → List FileOf
more_read command = map (file_of command.sources) (more_kinds command.verb)

-- the one file after the two tables was not read
pub record FailsMore (command : CommandOf) (why : LoadFault) (before now : ShelfState) : Type 0 where
  pub file : FileOf
  pub one : more_read command ≡ file ∷ []
  pub fails : FailsRead file why before now

-- the table of stations, where one is given
abbrev pub stations_files : SourcesOf → List FileOf
stations_files sources = map (file_of sources) (stations_kind sources.stations)

-- the two tables, and the table of stations
abbrev pub tables_read : CommandOf → List FileOf
tables_read command = file_of command.sources kind.Points ∷ file_of command.sources kind.Candidates ∷ stations_files command.sources

-- the bytes of the table of stations, where one is given, as they are held
abbrev pub stations_held : SourcesOf → Files → Option (List ℕ)
stations_held sources files = option_map (λ name. bytes_of files (name_of sources kind.Stations)) sources.stations

-- what the bytes of the tables give, as they are held
abbrev pub tables_held : SourcesOf → Files → InputOf
tables_held sources files = tables_input sources.redundancy (bytes_of files sources.points) (bytes_of files sources.candidates) (stations_held sources files)

-- .. is this, where the shelf tells them
abbrev pub TablesGive : CommandOf → Option Files → InputOf → Type 0
TablesGive command held given = ForSome held (λ files. tables_held command.sources files ≡ given)

-- the table of stations was read, where one is given, and no fault was counted
pub record ReadsStationBytes (sources : SourcesOf) (bytes : Option (List ℕ)) (before now : ShelfState) : Type 0 where
  pub read : ReadsAll (stations_files sources) before now
  pub are : ForSome before.held (λ files. bytes ≡ stations_held sources files)

-- it is given, and was not read
pub record FailsStations (sources : SourcesOf) (why : LoadFault) (before now : ShelfState) : Type 0 where
  pub name : List ℕ
  pub given : sources.stations ≡ Some name
  pub fails : FailsRead (file_of sources kind.Stations) why before now

-- the bytes of the tables were read, and no fault was counted
pub record ReadsTableBytes (command : CommandOf) (bytes : TableBytesOf) (before now : ShelfState) : Type 0 where
  pub read : ReadsAll (tables_read command) before now
  pub are : TablesGive command before.held (judged_bytes command.sources.redundancy bytes)

-- the tables were read and are accepted, these are they with their network, and no fault was counted
pub record LoadsTables (command : CommandOf) (tables : TablesOf) (before now : ShelfState) : Type 0 where
  pub read : ReadsAll (tables_read command) before now
  pub gives : TablesGive command before.held (built_input tables)
  pub good : IsGoodNetwork tables

-- .. and all files of the command were read
pub record Loads (command : CommandOf) (tables : TablesOf) (before now : ShelfState) : Type 0 where
  pub input : AreHeldTables command before.held tables
  pub good : IsGoodNetwork tables
  pub held : now.held ≡ before.held
  pub quiet : KeepsFaults before now

-- the read of a file of this name failed, and those before it in the order of reading are not too long
pub record FailsInOrder (files : List FileOf) (name : List ℕ) (before now : ShelfState) : Type 0 where
  pub earlier : List FileOf
  pub file : FileOf
  pub later : List FileOf
  pub order : files ≡ earlier ++ file ∷ later
  pub within : ForSome before.held (λ held. All (IsFileWithin held) earlier)
  pub same_name : name ≡ file.name
  pub fault : FailsAt file.name before now

-- why the files of a command were not loaded
abbrev pub HasLoadFault : CommandOf → LoadFault → ShelfState → ShelfState → Type 0
HasLoadFault command (load.TooLong name) before now = ForSome before.held (λ files. input_of command files ≡ too_long_input name.now) × KeepsFaults before now
HasLoadFault command (load.Unread name) before now = FailsInOrder (files_read command) name.now before now
HasLoadFault command (load.Refused refused) before now = ForSome before.held (λ files. input_of command files ≡ refused_input (refused_view refused)) × KeepsFaults before now
HasLoadFault command load.NoMemory before now = KeepsFaults before now

-- the files were not loaded: one is too long, a read of one failed, a table is refused, or memory ran out and no fault was
-- counted
pub record FailsLoad (command : CommandOf) (why : LoadFault) (before now : ShelfState) : Type 0 where
  pub held : now.held ≡ before.held
  pub later : before.faults ≤ now.faults
  pub cause : HasLoadFault command why before now
