use Rattle.std.specs.Prelude.{◌≡◌, ◌⊎◌, ℕ, List, Option}
use Rattle.std.specs.Option.{ForSome}
use Rattle.shelf_io.specs.Files.{Files, bytes_of}
use Rattle.shelf_io.specs.States.{ShelfState}
use Rattle.geoplan.specs.declared.verb.Verb.{Verb}
use Rattle.geoplan.specs.declared.verb.Verb.TheVariants as verb
use Rattle.geoplan.specs.CommandOf.{SourcesOf, CommandOf, files_read, OnCommand}
use Rattle.geoplan.specs.Benches.{ShowsPlan, ShowsOpen}
use Rattle.geoplan.specs.Input.{InputOf, no_input, too_long_input, refused_input, built_input, input_of}
use Rattle.geoplan.specs.Migrates.{MigratesLog, RefusesCuts, FailsToMigrate, BeganNewLog, IsMigrateStatus}
use Rattle.geoplan.specs.Outcomes.{FindsPlan, FindsNone, LeavesOpen, BeganLog, FailsToWrite, ListsRows, AcceptsLog, RefusesLog, IsCheckStatus, RefusesWords, RefusesTable, RefusesLength, FailsToRead}
use Rattle.geoplan.specs.Tables.{TablesOf}
use Rattle.geoplan.specs.Trials.{AnswersScript}
use Rattle.geoplan.specs.WrittenTables.{WritesTables, FailsToWriteTables, BeganTables}

-- What each command ends with: the outcomes, over the files that it reads and writes. This project's own.

-- the tables are those that the shelf holds, where it tells
abbrev pub AreHeldTables : CommandOf → Option Files → TablesOf → Type 0
AreHeldTables command held tables = ForSome held (λ files. input_of command files ≡ built_input tables)

-- the files of the command give two tables with their network, and P holds of them
abbrev pub OnTables : CommandOf → Option Files → (TablesOf → Type 0) → Type 0
OnTables command held P = (tables : TablesOf) × AreHeldTables command held tables × P tables

-- the bytes are those that the shelf holds under the name, where it tells
abbrev pub AreBytes : List ℕ → Option Files → List ℕ → Type 0
AreBytes name held bytes = ForSome held (λ files. bytes_of files name ≡ bytes)

-- these bytes were read under the name, and P holds of them
abbrev pub OnBytes : List ℕ → Option Files → (List ℕ → Type 0) → Type 0
OnBytes name held P = (bytes : List ℕ) × AreBytes name held bytes × P bytes

-- ---- what a command may end with

-- With status 0, 1, 4, 8 and 15: what the shelf held and holds, and the text. With status 6: what it held and holds. What a
-- command that writes files may leave of them. And which statuses it may have for what is held where no fault is counted, want of
-- memory among them.
pub record EndsOf : Type 1 where
  pub completes : ShelfState → ShelfState → List ℕ → Type 0
  pub finds_none : ShelfState → ShelfState → List ℕ → Type 0
  pub leaves_open : ShelfState → ShelfState → List ℕ → Type 0
  pub refuses_log : ShelfState → ShelfState → List ℕ → Type 0
  pub refuses_cuts : ShelfState → ShelfState → List ℕ → Type 0
  pub fails_to_write : ShelfState → ShelfState → Type 0
  pub began : Option Files → Option Files → Type 0
  pub answers : Files → ℕ → Type 0

-- the ends of a command that completes or refuses a log, and writes no file
abbrev pub reading_ends : (ShelfState → ShelfState → List ℕ → Type 0) → (ShelfState → ShelfState → List ℕ → Type 0) → (Files → ℕ → Type 0) → EndsOf
reading_ends completes refuses_log answers = record {
  completes = completes;
  finds_none = λ before now text. ⊥;
  leaves_open = λ before now text. ⊥;
  refuses_log = refuses_log;
  refuses_cuts = λ before now text. ⊥;
  fails_to_write = λ before now. ⊥;
  began = λ before now. ⊥;
  answers = answers;
}

-- .. of one that only completes
abbrev pub completing : (ShelfState → ShelfState → List ℕ → Type 0) → EndsOf
completing completes = reading_ends completes (λ before now text. ⊥) (λ files status. (status ≡ 0) ⊎ (status ≡ 7))

-- ---- .. where it reads two tables

-- the status that files give: that of the file that is too long, or of the table with a fault; or one of those of accepted
-- tables
abbrev pub IsStatusFor : (TablesOf → ℕ → Type 0) → InputOf → ℕ → Type 0
IsStatusFor Answers no_input status = status ≡ 7
IsStatusFor Answers (too_long_input name) status = (status ≡ 9) ⊎ (status ≡ 7)
IsStatusFor Answers (refused_input fault) status = (status ≡ 3) ⊎ (status ≡ 7)
IsStatusFor Answers (built_input tables) status = Answers tables status

-- the ends of a command over the two tables that its files give
abbrev pub on_tables : CommandOf → (TablesOf → EndsOf) → EndsOf
on_tables command ends = record {
  completes = λ before now text. OnTables command before.held (λ tables. (ends tables).completes before now text);
  finds_none = λ before now text. OnTables command before.held (λ tables. (ends tables).finds_none before now text);
  leaves_open = λ before now text. OnTables command before.held (λ tables. (ends tables).leaves_open before now text);
  refuses_log = λ before now text. OnTables command before.held (λ tables. (ends tables).refuses_log before now text);
  refuses_cuts = λ before now text. OnTables command before.held (λ tables. (ends tables).refuses_cuts before now text);
  fails_to_write = λ before now. OnTables command before.held (λ tables. (ends tables).fails_to_write before now);
  began = λ before now. OnTables command before (λ tables. (ends tables).began before now);
  answers = λ files status. IsStatusFor (λ tables. (ends tables).answers files) (input_of command files) status;
}

-- ---- the ends of each command

abbrev pub plan_ends : SourcesOf → TablesOf → EndsOf
plan_ends sources tables = record {
  completes = FindsPlan tables sources.log;
  finds_none = FindsNone tables sources.log;
  leaves_open = LeavesOpen tables sources.log;
  refuses_log = λ before now text. ⊥;
  refuses_cuts = λ before now text. ⊥;
  fails_to_write = FailsToWrite tables sources.log;
  began = BeganLog tables sources.log;
  answers = λ files status. (status ≡ 0) ⊎ ((status ≡ 1) ⊎ ((status ≡ 4) ⊎ (status ≡ 7)));
}

abbrev pub check_ends : SourcesOf → TablesOf → EndsOf
check_ends sources tables =
    reading_ends (λ before now text. OnBytes sources.log before.held (λ log. AcceptsLog tables log before now text))
    (λ before now text. OnBytes sources.log before.held (λ log. RefusesLog tables log before now text))
    (λ files status. IsCheckStatus tables (bytes_of files sources.log) status)

abbrev pub trial_ends : SourcesOf → TablesOf → EndsOf
trial_ends sources tables =
    completing (λ before now text. OnBytes sources.script before.held (λ script. AnswersScript tables script before now text))

abbrev pub migrate_ends : SourcesOf → TablesOf → EndsOf
migrate_ends sources tables = record {
  completes = λ before now text. OnBytes sources.log before.held (λ log. MigratesLog tables sources.new_log log before now text);
  finds_none = λ before now text. ⊥;
  leaves_open = λ before now text. ⊥;
  refuses_log = λ before now text. OnBytes sources.log before.held (λ log. RefusesLog tables log before now text);
  refuses_cuts = λ before now text. OnBytes sources.log before.held (λ log. RefusesCuts tables log before now text);
  fails_to_write = λ before now. OnBytes sources.log before.held (λ log. FailsToMigrate tables sources.new_log log before now);
  began = λ before now. OnBytes sources.log before (λ log. BeganNewLog tables sources.new_log log before now);
  answers = λ files status. IsMigrateStatus tables (bytes_of files sources.log) status;
}

abbrev pub gen_ends : SourcesOf → EndsOf
gen_ends sources = record {
  completes = WritesTables sources;
  finds_none = λ before now text. ⊥;
  leaves_open = λ before now text. ⊥;
  refuses_log = λ before now text. ⊥;
  refuses_cuts = λ before now text. ⊥;
  fails_to_write = FailsToWriteTables sources;
  began = BeganTables sources;
  answers = λ files status. (status ≡ 0) ⊎ (status ≡ 7);
}

abbrev pub bench_ends : SourcesOf → EndsOf
bench_ends sources = record {
  completes = ShowsPlan sources.seed;
  finds_none = λ before now text. ⊥;
  leaves_open = ShowsOpen sources.seed;
  refuses_log = λ before now text. ⊥;
  refuses_cuts = λ before now text. ⊥;
  fails_to_write = λ before now. ⊥;
  began = λ before now. ⊥;
  answers = λ files status. (status ≡ 0) ⊎ ((status ≡ 4) ⊎ (status ≡ 7));
}

abbrev pub ends_of : Verb → SourcesOf → EndsOf
ends_of verb.Plan sources = on_tables (record { verb = verb.Plan; sources = sources }) (plan_ends sources)
ends_of verb.Rows sources = on_tables (record { verb = verb.Rows; sources = sources }) (λ tables. completing (ListsRows tables))
ends_of verb.Check sources = on_tables (record { verb = verb.Check; sources = sources }) (check_ends sources)
ends_of verb.Trial sources = on_tables (record { verb = verb.Trial; sources = sources }) (trial_ends sources)
ends_of verb.Gen sources = gen_ends sources
ends_of verb.Bench sources = bench_ends sources
ends_of verb.Migrate sources = on_tables (record { verb = verb.Migrate; sources = sources }) (migrate_ends sources)

abbrev pub Completes : CommandOf → ShelfState → ShelfState → List ℕ → Type 0
Completes command before now text = (ends_of command.verb command.sources).completes before now text

abbrev pub EndsWithNone : CommandOf → ShelfState → ShelfState → List ℕ → Type 0
EndsWithNone command before now text = (ends_of command.verb command.sources).finds_none before now text

abbrev pub EndsOpen : CommandOf → ShelfState → ShelfState → List ℕ → Type 0
EndsOpen command before now text = (ends_of command.verb command.sources).leaves_open before now text

abbrev pub EndsAtLog : CommandOf → ShelfState → ShelfState → List ℕ → Type 0
EndsAtLog command before now text = (ends_of command.verb command.sources).refuses_log before now text

abbrev pub EndsAtCuts : CommandOf → ShelfState → ShelfState → List ℕ → Type 0
EndsAtCuts command before now text = (ends_of command.verb command.sources).refuses_cuts before now text

abbrev pub EndsUnwritten : CommandOf → ShelfState → ShelfState → Type 0
EndsUnwritten command before now = (ends_of command.verb command.sources).fails_to_write before now

abbrev pub Began : CommandOf → Option Files → Option Files → Type 0
Began command before now = (ends_of command.verb command.sources).began before now

-- ---- the outcomes of a command line that have a text

-- the reports of a command
abbrev pub HasReport : CommandOf → ShelfState → ShelfState → List ℕ → Type 0
HasReport command before now text = Completes command before now text ⊎ (EndsWithNone command before now text ⊎ EndsOpen command before now text)

-- the refusals of a command
abbrev pub HasRefusal : CommandOf → ShelfState → ShelfState → List ℕ → Type 0
HasRefusal command before now text =
    EndsAtLog command before now text ⊎ (EndsAtCuts command before now text ⊎ (RefusesTable command before now text
    ⊎ (RefusesLength command before now text ⊎ FailsToRead (files_read command) before now text)))

-- the outcomes of a command line that have a text
abbrev pub HasText : List (List ℕ) → ShelfState → ShelfState → List ℕ → Type 0
HasText words before now text =
    OnCommand words (λ command. HasReport command before now text ⊎ HasRefusal command before now text) ⊎ RefusesWords words before now text
