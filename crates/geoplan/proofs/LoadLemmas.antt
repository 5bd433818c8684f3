-- Laws of reading the files of a command and of what they give.
use Rattle.std.proofs.Common.{◌≡◌, ap, ◌+◌, ◌<◌, ◌≤◌, ℕ, Bool, true, false, if◌then◌else◌, List, [], ◌∷◌, ◌++◌, length, refl, sym, ◌∙◌, subst, arith, map, None, Option, Some}
use Rattle.std.specs.Prelude.{All, option_map}
use Rattle.shelf_io.specs.Files.{Files, bytes_of}
use Rattle.shelf_io.specs.Faults.{Rose, KeepsFaults}
use Rattle.std.specs.List.{AllByRecursion, enumerate_from, flat_map}
use Rattle.std.proofs.lemmas.List.{append-nil, length-map}
use Rattle.std.proofs.lemmas.List.Elements.{All-nil}
use Rattle.geo_model.specs.Network.{NetworkOf, StationsOf, IsNetwork}
use Rattle.geo_model.specs.declared.network.Component.TheVariants as component
use Rattle.geo_model.specs.declared.network.Unknown.{Unknown}
use Rattle.shelf_io.specs.States.{ShelfState}
use Rattle.point_tables.specs.declared.record.PointRecord.{PointRecord}
use Rattle.candidate_tables.specs.declared.record.CandidateRecord.{CandidateRecord}
use Rattle.design_rows.specs.Unknowns.{coordinates, is_new, is_oriented, orientation, unknown, unknowns_of}
use Rattle.design_rows.proofs.EntryFacts.{all-of}
use Rattle.design_rows.proofs.UnknownFacts.{every-append, every-weaker}
use Rattle.net_build.specs.Bounds.{AreTables}
use Rattle.net_build.specs.Build.{candidate_of, network_of}
use Rattle.covariance_words.proofs.Meaning.{met-limits-mean}
use Rattle.plan_report.specs.Reported.{IsAdded}
use Rattle.covariance_words.specs.Meaning.{HoldsAndIsPrecise}
use Rattle.station_tables.specs.declared.record.StationRecord.{StationRecord}
use Rattle.station_tables.specs.Occupied.{stations_on, with_stations}
use Rattle.geoplan.specs.declared.file_kind.FileKind.TheVariants as kind
use Rattle.geoplan.specs.declared.judge_fault.JudgeFault.{JudgeFault}
use Rattle.geoplan.specs.declared.judge_fault.JudgeFault.TheVariants as judge
use Rattle.geoplan.specs.declared.load.LoadFault.{LoadFault}
use Rattle.geoplan.specs.declared.load.LoadFault.TheVariants as load
use Rattle.geoplan.specs.declared.refused_table.RefusedTable.{RefusedTable}
use Rattle.geoplan.specs.CommandOf.{SourcesOf, CommandOf, FileOf, name_of, file_of, stations_kind, files_read}
use Rattle.geoplan.specs.Input.{InputOf, too_long_input, refused_input, built_input, equipped, IsFileWithin, input_of}
use Rattle.geoplan.specs.Loading.{IsGoodNetwork, ReadsTables, refused_view, ReadsFile, HasReadFault, FailsRead, ReadsAll, tables_read, more_read, FailsMore, TablesGive, LoadsTables, Loads, HasLoadFault, FailsLoad, IsRefusal, IsShownAs, TableBytesOf, judged_bytes, ReadsStationBytes, FailsStations, ReadsTableBytes, stations_files}
use Rattle.geoplan.specs.Tables.{TablesOf}
use Rattle.geoplan.proofs.InputLemmas.{files_read-tables, input_of-long, input_of-short}

-- ---- reading

-- no fault is counted in two steps where none is in each
pub keeps : (before middle now : ShelfState) → KeepsFaults middle now → KeepsFaults before middle → KeepsFaults before now
keeps before middle now two one = record { same_count = two.same_count ∙ one.same_count; same_last = two.same_last ∙ one.same_last }

-- before anything is read
pub ReadsAll-none : (state : ShelfState) → ReadsAll [] state state
ReadsAll-none state = record { within = λ files told. tt; held = refl; quiet = record { same_count = refl; same_last = refl } }

every-snoc : (P : FileOf → Type 0) (files : List FileOf) (file : FileOf) → AllByRecursion P files → P file → AllByRecursion P (files ++ file ∷ [])
every-snoc P [] file all one = (one, tt)
every-snoc P (first ∷ files) file all one = (all.0, every-snoc P files file all.1 one)

-- one file more
pub ReadsAll-one : (files : List FileOf) (file : FileOf) (bytes : List ℕ) (before middle now : ShelfState) → ReadsAll files before middle → ReadsFile file bytes middle now → ReadsAll (files ++ file ∷ []) before now
ReadsAll-one files file bytes before middle now all one = record {
  within = λ held told.
      every-snoc (IsFileWithin held) files file (all.within held told)
      (subst (λ b. length b ≤ file.most) (one.has.1 held (all.held ∙ told)) one.has.0);
  held = one.held ∙ all.held;
  quiet = keeps before middle now one.quiet all.quiet;
}

-- more files
pub ReadsAll-more : (files more : List FileOf) (before middle now : ShelfState) → ReadsAll files before middle → ReadsAll more middle now → ReadsAll (files ++ more) before now
ReadsAll-more files more before middle now all rest = record {
  within = λ held told. every-append (IsFileWithin held) files more (all.within held told) (rest.within held (all.held ∙ told));
  held = rest.held ∙ all.held;
  quiet = keeps before middle now rest.quiet all.quiet;
}

-- a file was not read after others were
module _ (command : CommandOf) (earlier : List FileOf) (file : FileOf) (later : List FileOf) (order : files_read command ≡ earlier ++ file ∷ later) (before middle now : ShelfState) (all : ReadsAll earlier before middle) where
  cause_of : (why : LoadFault) → HasReadFault file why middle now → HasLoadFault command why before now
  cause_of (load.TooLong other) (same, too_long, still) =
      (λ files told. input_of-long command files earlier file later order (all.within files told) (too_long files (all.held ∙ told)) ∙ ap too_long_input (sym same), keeps before middle now still all.quiet)
  cause_of (load.Unread other) (same, fault) = record {
    earlier = earlier;
    file = file;
    later = later;
    order = order;
    within = λ held told. all-of (IsFileWithin held) earlier (all.within held told);
    same_name = same;
    fault = record { rose = subst (λ n. Rose n now.faults) all.quiet.same_count fault.rose; last = fault.last };
  }
  cause_of (load.Refused refused) never = absurd never
  cause_of load.NoMemory still = keeps before middle now still all.quiet

  pub FailsLoad-at : (why : LoadFault) → FailsRead file why middle now → FailsLoad command why before now
  FailsLoad-at why fails = record {
    held = fails.held ∙ all.held;
    later = subst (λ n. n ≤ now.faults) all.quiet.same_count fails.later;
    cause = cause_of why fails.cause;
  }

-- the points were not read
pub FailsLoad-points : (command : CommandOf) → ReadsTables command.verb → (why : LoadFault) (before now : ShelfState) → FailsRead (file_of command.sources kind.Points) why before now → FailsLoad command why before now
FailsLoad-points command tables why before now fails =
    FailsLoad-at command [] (file_of command.sources kind.Points) (file_of command.sources kind.Candidates ∷ (stations_files command.sources ++ more_read command)) (files_read-tables command tables) before before now (ReadsAll-none before) why fails

-- the file after the tables was not
pub FailsLoad-after : (command : CommandOf) → ReadsTables command.verb → (before middle now : ShelfState) → ReadsAll (tables_read command) before middle → (why : LoadFault) → FailsMore command why middle now → FailsLoad command why before now
FailsLoad-after command tables before middle now read why more =
    FailsLoad-at command (tables_read command) more.file []
    (files_read-tables command tables ∙ ap (λ files. tables_read command ++ files) more.one) before middle now read why more.fails

-- all files were read
pub reads_every : (command : CommandOf) → ReadsTables command.verb → (before middle now : ShelfState) → ReadsAll (tables_read command) before middle → ReadsAll (more_read command) middle now → ReadsAll (files_read command) before now
reads_every command tables before middle now read more =
    subst (λ files. ReadsAll files before now) (sym (files_read-tables command tables)) (ReadsAll-more (tables_read command) (more_read command) before middle now read more)

-- then the files give what their tables do
pub input_is : (command : CommandOf) → ReadsTables command.verb → (before now : ShelfState) → ReadsAll (files_read command) before now → (given : InputOf) → TablesGive command before.held given → (files : Files) → before.held ≡ Some files → input_of command files ≡ given
input_is command tables before now all given is files told = input_of-short command files tables (all.within files told) ∙ is files told

-- accepted tables are those of the command once all its files were read
pub Loads-all : (command : CommandOf) → ReadsTables command.verb → (tables : TablesOf) (before middle now : ShelfState) → LoadsTables command tables before middle → ReadsAll (more_read command) middle now → Loads command tables before now
Loads-all command two tables before middle now has more =
    let all = reads_every command two before middle now has.read more in
    record {
      input = λ files told. input_is command two before now all (built_input tables) has.gives files told;
      good = has.good;
      held = all.held;
      quiet = all.quiet;
    }

module _ (command : CommandOf) (two_tables : ReadsTables command.verb) (points : List ℕ) (before first : ShelfState) (one : ReadsFile (file_of command.sources kind.Points) points before first) where
  one_read : ReadsAll (file_of command.sources kind.Points ∷ []) before first
  one_read = ReadsAll-one [] (file_of command.sources kind.Points) points before before first (ReadsAll-none before) one

  -- the candidates were not
  pub FailsLoad-candidates : (why : LoadFault) (now : ShelfState) → FailsRead (file_of command.sources kind.Candidates) why first now → FailsLoad command why before now
  FailsLoad-candidates why now fails =
      FailsLoad-at command (file_of command.sources kind.Points ∷ []) (file_of command.sources kind.Candidates) (stations_files command.sources ++ more_read command) (files_read-tables command two_tables) before first now one_read why fails

  module _ (candidates : List ℕ) (second : ShelfState) (two : ReadsFile (file_of command.sources kind.Candidates) candidates first second) where
    two_read : ReadsAll (file_of command.sources kind.Points ∷ file_of command.sources kind.Candidates ∷ []) before second
    two_read = ReadsAll-one (file_of command.sources kind.Points ∷ []) (file_of command.sources kind.Candidates) candidates before first second one_read two

    -- the table of stations was not
    pub FailsLoad-stations : (why : LoadFault) (now : ShelfState) → FailsStations command.sources why second now → FailsLoad command why before now
    FailsLoad-stations why now fails =
        FailsLoad-at command (file_of command.sources kind.Points ∷ file_of command.sources kind.Candidates ∷ []) (file_of command.sources kind.Stations) (more_read command)
        (files_read-tables command two_tables
        ∙ ap (λ given. file_of command.sources kind.Points ∷ file_of command.sources kind.Candidates ∷ (map (file_of command.sources) (stations_kind given) ++ more_read command)) fails.given)
        before second now two_read why fails.fails

    -- all were, where it is given
    pub ReadsTableBytes-read : (stations : Option (List ℕ)) (now : ShelfState) → ReadsStationBytes command.sources stations second now → (bytes : TableBytesOf) →
        bytes ≡ record { points = points; candidates = candidates; stations = stations } → ReadsTableBytes command bytes before now
    ReadsTableBytes-read stations now third bytes are = rw are record {
      read = ReadsAll-more (file_of command.sources kind.Points ∷ file_of command.sources kind.Candidates ∷ []) (stations_files command.sources) before second now two_read third.read;
      are = λ files told. rw (one.has.1 files told, two.has.1 files (one.held ∙ told), third.are files (two.held ∙ one.held ∙ told)) refl;
    }

-- the bytes of the tables were read
module _ (command : CommandOf) (two_tables : ReadsTables command.verb) (bytes : TableBytesOf) (before middle : ShelfState) (has : ReadsTableBytes command bytes before middle) where
  -- what the files give is what these bytes give
  give : (given : InputOf) → judged_bytes command.sources.redundancy bytes ≡ given → TablesGive command before.held given
  give given is files told = has.are files told ∙ is

  -- the tables are accepted
  pub LoadsTables-judged : (tables : TablesOf) → judged_bytes command.sources.redundancy bytes ≡ built_input tables → IsGoodNetwork tables → LoadsTables command tables before middle
  LoadsTables-judged tables is good = record { read = has.read; gives = give (built_input tables) is; good = good }

  -- memory ran out
  pub FailsLoad-out : FailsLoad command load.NoMemory before middle
  FailsLoad-out = record { held = has.read.held; later = omega (arith, has.read.quiet.same_count); cause = has.read.quiet }

  -- the tables are refused, and the file after them was not read
  pub FailsLoad-more : (why : LoadFault) (now : ShelfState) → FailsMore command why middle now → FailsLoad command why before now
  FailsLoad-more why now more = FailsLoad-after command two_tables before middle now has.read why more

  -- .. or was
  pub FailsLoad-refused : (refused : RefusedTable) (now : ShelfState) → judged_bytes command.sources.redundancy bytes ≡ refused_input (refused_view refused) → ReadsAll (more_read command) middle now → FailsLoad command (load.Refused refused) before now
  FailsLoad-refused refused now is more =
      let all = reads_every command two_tables before middle now has.read more in
      record {
        held = all.held;
        later = omega (arith, all.quiet.same_count);
        cause = (λ files told. input_is command two_tables before now all (refused_input (refused_view refused)) (give (refused_input (refused_view refused)) is) files told, all.quiet);
      }

-- what is refused is shown
pub refused_as : (given : InputOf) (why : JudgeFault) (shown : Option RefusedTable) (refused : RefusedTable) → IsRefusal given why → IsShownAs why shown → shown ≡ Some refused
    → given ≡ refused_input (refused_view refused)
refused_as given (judge.Table fault) None refused is shown_as one = absurd shown_as
refused_as given (judge.Table fault) (Some other) refused is shown_as one = let same : other ≡ refused = cc in is ∙ ap refused_input (sym shown_as) ∙ ap (λ r. refused_input (refused_view r)) same
refused_as given (judge.Stations fault) None refused is shown_as one = absurd shown_as
refused_as given (judge.Stations fault) (Some other) refused is shown_as one = let same : other ≡ refused = cc in is ∙ ap refused_input (sym shown_as) ∙ ap (λ r. refused_input (refused_view r)) same
refused_as given judge.NoMemory None refused is shown_as one = absurd (cc)
refused_as given judge.NoMemory (Some other) refused is shown_as one = absurd shown_as

-- ---- the network

-- what is numbered by the points of a table is of one of them
placed-from : (f : ℕ × PointRecord → List Unknown) → ((k : ℕ) (point : PointRecord) → AllByRecursion (λ u. u.point ≡ k) (f (k, point)))
    → (n most : ℕ) (points : List PointRecord) → n + length points ≤ most → AllByRecursion (λ u. u.point < most) (flat_map f (enumerate_from n points))
placed-from f each n most [] le = tt
placed-from f each n most (point ∷ points) le =
    every-append (λ (u : Unknown). u.point < most) (f (n, point)) (flat_map f (enumerate_from (n + 1) points))
    (every-weaker (λ (u : Unknown). u.point ≡ n) (λ (u : Unknown). u.point < most) (λ u e. omega arith) (f (n, point)) (each n point))
    (placed-from f each (n + 1) most points (omega arith))

coordinates-at : (plane height : Bool) (k : ℕ) →
    AllByRecursion (λ (u : Unknown). u.point ≡ k)
    ((if plane then unknown k component.X ∷ unknown k component.Y ∷ [] else []) ++ (if height then unknown k component.Z ∷ [] else []))
coordinates-at true true k = (refl, (refl, (refl, tt)))
coordinates-at true false k = (refl, (refl, tt))
coordinates-at false true k = (refl, tt)
coordinates-at false false k = tt

orientation-at : (station : Bool) (k : ℕ) → AllByRecursion (λ (u : Unknown). u.point ≡ k) (if station then unknown k component.Turn ∷ [] else [])
orientation-at true k = (refl, tt)
orientation-at false k = tt

-- each unknown is of a point of the table
unknowns-placed : (points : List PointRecord) (candidates : List CandidateRecord) → All (λ unknown. unknown.point < length points) (unknowns_of points candidates)
unfolding unknowns_of
unknowns-placed points candidates =
    all-of (λ (u : Unknown). u.point < length points) (unknowns_of points candidates)
    (every-append (λ (u : Unknown). u.point < length points) (flat_map coordinates (enumerate_from 0 points)) (flat_map (orientation candidates) (enumerate_from 0 points))
    (placed-from coordinates (λ k point. coordinates-at (is_new point.plane) (is_new point.height) k) 0 (length points) points (omega arith))
    (placed-from (orientation candidates) (λ k point. orientation-at (is_oriented candidates k) k) 0 (length points) points (omega arith)))

-- the network of two tables has their candidates
pub built_candidates : (redundancy : ℕ) (points : List PointRecord) (candidates : List CandidateRecord) (network : NetworkOf) → network ≡ network_of points candidates redundancy → length network.candidates ≡ length candidates
unfolding network_of
built_candidates redundancy points candidates network is = ap (λ (n : NetworkOf). length n.candidates) is ∙ length-map candidates (candidate_of points (unknowns_of points candidates))

-- .. and its unknowns are of their points
good_network : (redundancy : ℕ) (points : List PointRecord) (candidates : List CandidateRecord) → IsNetwork (network_of points candidates redundancy) → AreTables points candidates redundancy →
    IsGoodNetwork (record { points = points; candidates = candidates; redundancy = redundancy; network = network_of points candidates redundancy })
unfolding network_of
good_network redundancy points candidates bounds are = record {
  bounds = bounds;
  named = sym (built_candidates redundancy points candidates (network_of points candidates redundancy) refl);
  placed = unknowns-placed points candidates;
  means = λ plan meets. met-limits-mean points candidates redundancy plan are meets;
  reported = record {
    tables = are;
    unknowns = refl;
    offered = refl;
    added = [];
    limits = sym (append-nil (network_of points candidates redundancy).limits);
    each_added = All-nil IsAdded;
  };
}

-- a plan is as precise whatever the stations cost
precise_equipped : (points : List PointRecord) (network : NetworkOf) (stations : StationsOf) (redundancy : ℕ) (plan : List Bool) →
    HoldsAndIsPrecise points network redundancy plan → HoldsAndIsPrecise points (with_stations network stations) redundancy plan
precise_equipped points network stations redundancy plan is = record {
  holds = record { planes = is.holds.planes; heights = is.holds.heights };
  precise = λ c d inverse.
      let precise = is.precise c d inverse in
      record { ellipses = precise.ellipses; heights = precise.heights; redundancies = precise.redundancies };
}

-- so a good network is good with stations
good_equipped : (redundancy : ℕ) (points : List PointRecord) (candidates : List CandidateRecord) (stations : Option (List StationRecord)) →
    IsGoodNetwork (record { points = points; candidates = candidates; redundancy = redundancy; network = network_of points candidates redundancy }) →
    IsNetwork (equipped (network_of points candidates redundancy) points candidates stations) →
    IsGoodNetwork (record { points = points; candidates = candidates; redundancy = redundancy; network = equipped (network_of points candidates redundancy) points candidates stations })
good_equipped redundancy points candidates None good bounds = good
good_equipped redundancy points candidates (Some stations) good bounds = record {
  bounds = bounds;
  named = good.named;
  placed = good.placed;
  means = λ plan meets. precise_equipped points (network_of points candidates redundancy) (stations_on points candidates stations) redundancy plan (good.means plan meets);
  reported = record {
    tables = good.reported.tables;
    unknowns = good.reported.unknowns;
    offered = good.reported.offered;
    added = good.reported.added;
    limits = good.reported.limits;
    each_added = good.reported.each_added;
  };
}

-- so what is built is good
pub good_tables : (redundancy : ℕ) (points : List PointRecord) (candidates : List CandidateRecord) (stations : Option (List StationRecord)) (plain network : NetworkOf) (tables : TablesOf) →
    tables ≡ record { points = points; candidates = candidates; redundancy = redundancy; network = network } → plain ≡ network_of points candidates redundancy → IsNetwork plain →
    network ≡ equipped plain points candidates stations → IsNetwork network → AreTables points candidates redundancy → IsGoodNetwork tables
good_tables redundancy points candidates stations plain network tables are is plain_bounds made bounds accepted =
    let same : network ≡ equipped (network_of points candidates redundancy) points candidates stations = made ∙ ap (λ (n : NetworkOf). equipped n points candidates stations) is in
    let good = good_equipped redundancy points candidates stations (good_network redundancy points candidates (subst IsNetwork is plain_bounds) accepted) (subst IsNetwork same bounds) in
    let built : IsGoodNetwork (record { points = points; candidates = candidates; redundancy = redundancy; network = network }) =
    subst (λ (n : NetworkOf). IsGoodNetwork (record { points = points; candidates = candidates; redundancy = redundancy; network = n })) (sym same) good in
    subst IsGoodNetwork (sym are) built
