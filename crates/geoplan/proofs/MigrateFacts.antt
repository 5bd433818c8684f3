-- The facts of `migrate`.
use Rattle.std.proofs.Common.{◌≡◌, ◌⊎◌, inl, inr, ℕ, List, [], ◌∷◌, refl, sym, subst, arith, Option, None, Some}
use Rattle.std.specs.Prelude.{Contains, option_map}
use Rattle.std.proofs.lemmas.List.{append-nil}
use Rattle.shelf_io.specs.Files.{Files, bytes_of, with_bytes}
use Rattle.shelf_io.specs.States.{ShelfState}
use Rattle.geoplan.specs.declared.file_kind.FileKind.{FileKind}
use Rattle.geoplan.specs.declared.file_kind.FileKind.TheVariants as kind
use Rattle.geoplan.specs.declared.verb.Verb.TheVariants as verb
use Rattle.geoplan.specs.CommandOf.{SourcesOf, CommandOf, names_written, reads, behind_tables}
use Rattle.geoplan.specs.Ends.{AreBytes, OnBytes, migrate_ends}
use Rattle.geoplan.specs.Input.{judged_input}
use Rattle.geoplan.specs.Loading.{ReadsTables, tables_input}
use Rattle.geoplan.specs.Migrates.{MigratesLog, BeganNewLog, RefusesCuts, HasNewLog, HasTooManyCuts, IsMigrateStatus}
use Rattle.geoplan.specs.Outcomes.{RefusesLog, IsWrongLog}
use Rattle.geoplan.specs.Tables.{TablesOf}
use Rattle.geoplan.specs.WrittenTables.{BeganFile}
use Rattle.geoplan.proofs.CheckFacts.{right_log, wrong_log}
use Rattle.geoplan.proofs.OwedFacts.{KeptBy, EndsKeep, EndsQuiet, TablesAnswer, OwedFacts, tables_keep, tables_quiet, tables_answer}

abbrev pub migrating : SourcesOf → CommandOf
migrating sources = record { verb = verb.Migrate; sources = sources }

-- a whole file is a beginning of it
pub whole_began : (name text : List ℕ) (before now : Option Files) → now ≡ with_bytes before name text → BeganFile name text before now
whole_began name text before now written = record { piece = text; rest = []; begins = sym (append-nil text); written = written }

only_one : (name : List ℕ) → Contains (name ∷ []) name
only_one name = (0, omega arith, refl)

module _ (sources : SourcesOf) (tables : TablesOf) where
  abbrev Kept : ShelfState → ShelfState → Type 0
  Kept before now = KeptBy (migrate_ends sources tables) before now

  -- what stands once the log was read
  kept_bytes : (before now : ShelfState) (log : List ℕ) → AreBytes sources.log before.held log → (now.held ≡ before.held) ⊎ BeganNewLog tables sources.new_log log before.held now.held → Kept before now
  kept_bytes before now log are (inl same) = inl same
  kept_bytes before now log are (inr began) = inr (log, are, began)

  began_by : (log : List ℕ) (before now : ShelfState) (text : List ℕ) → MigratesLog tables sources.new_log log before now text → BeganNewLog tables sources.new_log log before.held now.held
  began_by log before now text migrates = record {
    done = migrates.done;
    new = migrates.new;
    comes = migrates.comes;
    began = whole_began sources.new_log migrates.new before.held now.held migrates.written;
  }

  keeps : EndsKeep (migrate_ends sources tables) (names_written (migrating sources))
  keeps = record {
    completed = λ before now text e. kept_bytes before now e.0 e.1 (inr (began_by e.0 before now text e.2));
    none = λ before now text never. absurd never;
    undecided = λ before now text never. absurd never;
    log_refused = λ before now text e. inl e.2.held;
    cuts_refused = λ before now text e. inl e.2.held;
    unwritten = λ before now e. kept_bytes before now e.0 e.1 e.2.held;
    pieces = λ before now e. record { pieces = (sources.new_log, e.2.began.piece) ∷ []; named = (only_one sources.new_log, tt); held = e.2.began.written };
  }

  quiet : EndsQuiet (migrate_ends sources tables)
  quiet = record {
    completed = λ before now text e. e.2.quiet;
    none = λ before now text never. absurd never;
    undecided = λ before now text never. absurd never;
    log_refused = λ before now text e. e.2.quiet;
    cuts_refused = λ before now text e. e.2.quiet;
  }

  -- ---- its statuses

  abbrev Answers : Files → ℕ → Type 0
  Answers files status = IsMigrateStatus tables (bytes_of files sources.log) status

  new_log : (log : List ℕ) (before now : ShelfState) (text : List ℕ) → MigratesLog tables sources.new_log log before now text → HasNewLog tables log
  new_log log before now text migrates = record {
    right = record { done = migrates.done; replayed = migrates.comes.replayed; faultless = (right_log tables log migrates.done migrates.comes.replayed).faultless };
    new = migrates.new;
    migrated = migrates.comes.migrated;
  }

  many_cuts : (log : List ℕ) (before now : ShelfState) (text : List ℕ) → RefusesCuts tables log before now text → HasTooManyCuts tables log
  many_cuts log before now text refuses = record {
    right = record { done = refuses.done; replayed = refuses.replayed; faultless = (right_log tables log refuses.done refuses.replayed).faultless };
    many = refuses.many;
  }

  completed_answers : (files : Files) (before now : ShelfState) (text : List ℕ) → before.held ≡ Some files → OnBytes sources.log before.held (λ log. MigratesLog tables sources.new_log log before now text) → Answers files 0
  completed_answers files before now text told (log, is, migrates) =
      inl (refl, subst (λ bytes. HasNewLog tables bytes) (sym (is files told)) (new_log log before now text migrates))

  cuts_answers : (files : Files) (before now : ShelfState) (text : List ℕ) → before.held ≡ Some files → OnBytes sources.log before.held (λ log. RefusesCuts tables log before now text) → Answers files 15
  cuts_answers files before now text told (log, is, refuses) =
      inr (inl (refl, subst (λ bytes. HasTooManyCuts tables bytes) (sym (is files told)) (many_cuts log before now text refuses)))

  log_answers : (files : Files) (before now : ShelfState) (text : List ℕ) → before.held ≡ Some files → OnBytes sources.log before.held (λ log. RefusesLog tables log before now text) → Answers files 8
  log_answers files before now text told (log, is, refuses) =
      inr (inr (inl (refl, subst (λ bytes. IsWrongLog tables bytes) (sym (is files told)) (wrong_log tables log before now text refuses))))

  answers : TablesAnswer (migrate_ends sources tables)
  answers = record {
    memory = λ files. inr (inr (inr refl));
    completed = completed_answers;
    none = λ files before now text told never. absurd never;
    undecided = λ files before now text told never. absurd never;
    log_refused = log_answers;
    cuts_refused = cuts_answers;
    unwritten = λ before now e. e.2.rose;
  }

judged : (redundancy : ℕ) (bytes : FileKind → List ℕ) (stations : Option (List ℕ)) → judged_input redundancy bytes (behind_tables (reads verb.Migrate) stations)
    ≡ tables_input redundancy (bytes kind.Points) (bytes kind.Candidates) (option_map (λ name. bytes kind.Stations) stations)
unfolding judged_input tables_input
judged redundancy bytes None = refl
judged redundancy bytes (Some name) = refl

pub reads_tables : ReadsTables verb.Migrate
reads_tables = record { first = refl; judged = judged }

pub facts : OwedFacts verb.Migrate
facts = record {
  keeps = λ sources. tables_keep (migrating sources) (migrate_ends sources) (names_written (migrating sources)) (keeps sources);
  quiet = λ sources. tables_quiet (migrating sources) (migrate_ends sources) (quiet sources);
  answers = λ sources. tables_answer (migrating sources) (migrate_ends sources) (answers sources);
}
