-- What the proofs over all commands read of each one. Each command states its facts in a file of its own, and `CommandFacts`
-- collects them.
use Rattle.std.proofs.Common.{◌≡◌, ◌⊎◌, inl, inr, ℕ, List, [], ◌∷◌, refl, sym, ◌∙◌, subst, Option, Some}
use Rattle.std.specs.Prelude.{Contains}
use Rattle.std.specs.List.{AllByRecursion}
use Rattle.shelf_io.specs.Files.{Files, with_bytes}
use Rattle.shelf_io.specs.Faults.{Rose, KeepsFaults}
use Rattle.shelf_io.specs.States.{ShelfState}
use Rattle.geoplan.specs.declared.verb.Verb.{Verb}
use Rattle.geoplan.specs.CommandOf.{SourcesOf, CommandOf, names_written}
use Rattle.geoplan.specs.Ends.{AreHeldTables, EndsOf, reading_ends, completing, IsStatusFor, on_tables, ends_of}
use Rattle.geoplan.specs.Input.{InputOf, no_input, too_long_input, refused_input, built_input, input_of}
use Rattle.geoplan.specs.Promises.{IsRefusedBy}
use Rattle.geoplan.specs.Tables.{TablesOf, RefusedOf}

-- ---- what the shelf holds after its ends

-- what was held, or the beginning of what the command writes besides
abbrev pub KeptBy : EndsOf → ShelfState → ShelfState → Type 0
KeptBy ends before now = (now.held ≡ before.held) ⊎ ends.began before.held now.held

-- what the shelf holds once pieces stand under names, one after another
abbrev pub with_pieces : Option Files → List (List ℕ × List ℕ) → Option Files
with_pieces held [] = held
with_pieces held (piece ∷ later) = with_pieces (with_bytes held piece.0 piece.1) later

-- the shelf holds what it held, but for pieces under some of these names
pub record HoldsPieces (names : List (List ℕ)) (before now : Option Files) : Type 0 where
  pub pieces : List (List ℕ × List ℕ)
  pub named : AllByRecursion (λ piece. Contains names piece.0) pieces
  pub held : now ≡ with_pieces before pieces

pub record EndsKeep (ends : EndsOf) (names : List (List ℕ)) : Type 0 where
  pub completed : (before now : ShelfState) (text : List ℕ) → ends.completes before now text → KeptBy ends before now
  pub none : (before now : ShelfState) (text : List ℕ) → ends.finds_none before now text → KeptBy ends before now
  pub undecided : (before now : ShelfState) (text : List ℕ) → ends.leaves_open before now text → KeptBy ends before now
  pub log_refused : (before now : ShelfState) (text : List ℕ) → ends.refuses_log before now text → KeptBy ends before now
  pub cuts_refused : (before now : ShelfState) (text : List ℕ) → ends.refuses_cuts before now text → KeptBy ends before now
  pub unwritten : (before now : ShelfState) → ends.fails_to_write before now → KeptBy ends before now
  pub pieces : (before now : Option Files) → ends.began before now → HoldsPieces names before now

-- ---- where no fault is counted

-- .. but for a failed write
pub record EndsQuiet (ends : EndsOf) : Type 0 where
  pub completed : (before now : ShelfState) (text : List ℕ) → ends.completes before now text → KeepsFaults before now
  pub none : (before now : ShelfState) (text : List ℕ) → ends.finds_none before now text → KeepsFaults before now
  pub undecided : (before now : ShelfState) (text : List ℕ) → ends.leaves_open before now text → KeepsFaults before now
  pub log_refused : (before now : ShelfState) (text : List ℕ) → ends.refuses_log before now text → KeepsFaults before now
  pub cuts_refused : (before now : ShelfState) (text : List ℕ) → ends.refuses_cuts before now text → KeepsFaults before now

-- ---- which statuses its ends have

-- .. over tables that were read
pub record TablesAnswer (ends : EndsOf) : Type 0 where
  pub memory : (files : Files) → ends.answers files 7
  pub completed : (files : Files) (before now : ShelfState) (text : List ℕ) → before.held ≡ Some files → ends.completes before now text → ends.answers files 0
  pub none : (files : Files) (before now : ShelfState) (text : List ℕ) → before.held ≡ Some files → ends.finds_none before now text → ends.answers files 1
  pub undecided : (files : Files) (before now : ShelfState) (text : List ℕ) → before.held ≡ Some files → ends.leaves_open before now text → ends.answers files 4
  pub log_refused : (files : Files) (before now : ShelfState) (text : List ℕ) → before.held ≡ Some files → ends.refuses_log before now text → ends.answers files 8
  pub cuts_refused : (files : Files) (before now : ShelfState) (text : List ℕ) → before.held ≡ Some files → ends.refuses_cuts before now text → ends.answers files 15
  pub unwritten : (before now : ShelfState) → ends.fails_to_write before now → Rose before.faults now.faults

-- what the files give is no refusal
abbrev pub IsUnrefused : CommandOf → Files → Type 0
IsUnrefused command files = (status : ℕ) → IsRefusedBy (input_of command files) status

-- a status is one of those that the ends have for files, which are not refused
pub record HasStatus (command : CommandOf) (ends : EndsOf) (files : Files) (status : ℕ) : Type 0 where
  pub answers : ends.answers files status
  pub unrefused : IsUnrefused command files

pub record EndsAnswer (command : CommandOf) (ends : EndsOf) : Type 0 where
  pub memory : (files : Files) → ends.answers files 7
  pub refused : (files : Files) (fault : RefusedOf) → input_of command files ≡ refused_input fault → ends.answers files 3
  pub too_long : (files : Files) (name : List ℕ) → input_of command files ≡ too_long_input name → ends.answers files 9
  pub completed : (files : Files) (before now : ShelfState) (text : List ℕ) → before.held ≡ Some files → ends.completes before now text → HasStatus command ends files 0
  pub none : (files : Files) (before now : ShelfState) (text : List ℕ) → before.held ≡ Some files → ends.finds_none before now text → HasStatus command ends files 1
  pub undecided : (files : Files) (before now : ShelfState) (text : List ℕ) → before.held ≡ Some files → ends.leaves_open before now text → HasStatus command ends files 4
  pub log_refused : (files : Files) (before now : ShelfState) (text : List ℕ) → before.held ≡ Some files → ends.refuses_log before now text → HasStatus command ends files 8
  pub cuts_refused : (files : Files) (before now : ShelfState) (text : List ℕ) → before.held ≡ Some files → ends.refuses_cuts before now text → HasStatus command ends files 15
  pub unwritten : (before now : ShelfState) → ends.fails_to_write before now → Rose before.faults now.faults
  pub unwritten_files : (files : Files) (before now : ShelfState) → before.held ≡ Some files → ends.fails_to_write before now → IsUnrefused command files

-- ---- all of it

pub record OwedFacts (which : Verb) : Type 0 where
  pub keeps : (sources : SourcesOf) → EndsKeep (ends_of which sources) (names_written (record { verb = which; sources = sources }))
  pub quiet : (sources : SourcesOf) → EndsQuiet (ends_of which sources)
  pub answers : (sources : SourcesOf) → EndsAnswer (record { verb = which; sources = sources }) (ends_of which sources)

-- ---- a command over two tables, from what each two tables owe

module _ (command : CommandOf) (ends : TablesOf → EndsOf) where
  kept_on : (before now : ShelfState) (tables : TablesOf) → AreHeldTables command before.held tables → KeptBy (ends tables) before now → KeptBy (on_tables command ends) before now
  kept_on before now tables are (inl same) = inl same
  kept_on before now tables are (inr began) = inr (tables, are, began)

  pub tables_keep : (names : List (List ℕ)) → ((tables : TablesOf) → EndsKeep (ends tables) names) → EndsKeep (on_tables command ends) names
  tables_keep names each = record {
    completed = λ before now text e. kept_on before now e.0 e.1 ((each e.0).completed before now text e.2);
    none = λ before now text e. kept_on before now e.0 e.1 ((each e.0).none before now text e.2);
    undecided = λ before now text e. kept_on before now e.0 e.1 ((each e.0).undecided before now text e.2);
    log_refused = λ before now text e. kept_on before now e.0 e.1 ((each e.0).log_refused before now text e.2);
    cuts_refused = λ before now text e. kept_on before now e.0 e.1 ((each e.0).cuts_refused before now text e.2);
    unwritten = λ before now e. kept_on before now e.0 e.1 ((each e.0).unwritten before now e.2);
    pieces = λ before now e. (each e.0).pieces before now e.2;
  }

  pub tables_quiet : ((tables : TablesOf) → EndsQuiet (ends tables)) → EndsQuiet (on_tables command ends)
  tables_quiet each = record {
    completed = λ before now text e. (each e.0).completed before now text e.2;
    none = λ before now text e. (each e.0).none before now text e.2;
    undecided = λ before now text e. (each e.0).undecided before now text e.2;
    log_refused = λ before now text e. (each e.0).log_refused before now text e.2;
    cuts_refused = λ before now text e. (each e.0).cuts_refused before now text e.2;
  }

  abbrev Answers : Files → TablesOf → ℕ → Type 0
  Answers files tables = (ends tables).answers files

  module _ (each : (tables : TablesOf) → TablesAnswer (ends tables)) where
    memory_for : (files : Files) (given : InputOf) → IsStatusFor (Answers files) given 7
    memory_for files no_input = refl
    memory_for files (too_long_input name) = inr refl
    memory_for files (refused_input fault) = inr refl
    memory_for files (built_input tables) = (each tables).memory files

    built_status : (files : Files) (tables : TablesOf) (status : ℕ) → input_of command files ≡ built_input tables → (ends tables).answers files status → HasStatus command (on_tables command ends) files status
    built_status files tables status built is = record {
      answers = subst (λ given. IsStatusFor (Answers files) given status) (sym built) is;
      unrefused = λ other. subst (λ given. IsRefusedBy given other) (sym built) tt;
    }

    pub tables_answer : EndsAnswer command (on_tables command ends)
    tables_answer = record {
      memory = λ files. memory_for files (input_of command files);
      refused = λ files fault is. subst (λ given. IsStatusFor (Answers files) given 3) (sym is) (inl refl);
      too_long = λ files name is. subst (λ given. IsStatusFor (Answers files) given 9) (sym is) (inl refl);
      completed = λ files before now text told e. built_status files e.0 0 (e.1 files told) ((each e.0).completed files before now text told e.2);
      none = λ files before now text told e. built_status files e.0 1 (e.1 files told) ((each e.0).none files before now text told e.2);
      undecided = λ files before now text told e. built_status files e.0 4 (e.1 files told) ((each e.0).undecided files before now text told e.2);
      log_refused = λ files before now text told e. built_status files e.0 8 (e.1 files told) ((each e.0).log_refused files before now text told e.2);
      cuts_refused = λ files before now text told e. built_status files e.0 15 (e.1 files told) ((each e.0).cuts_refused files before now text told e.2);
      unwritten = λ before now e. (each e.0).unwritten before now e.2;
      unwritten_files = λ files before now told e status. subst (λ given. IsRefusedBy given status) (sym (e.1 files told)) tt;
    }

-- ---- a command that reads no file

module _ (command : CommandOf) (nothing : (files : Files) → input_of command files ≡ no_input) where
  pub nothing_unrefused : (files : Files) → IsUnrefused command files
  nothing_unrefused files status = subst (λ given. IsRefusedBy given status) (sym (nothing files)) tt

  pub nothing_refused : (files : Files) (fault : RefusedOf) → input_of command files ≡ refused_input fault → ⊥
  nothing_refused files fault is = let e : no_input ≡ refused_input fault = sym (nothing files) ∙ is in cc

  pub nothing_long : (files : Files) (name : List ℕ) → input_of command files ≡ too_long_input name → ⊥
  nothing_long files name is = let e : no_input ≡ too_long_input name = sym (nothing files) ∙ is in cc

-- ---- a command that writes no file

module _ (completes refuses_log : ShelfState → ShelfState → List ℕ → Type 0) (answers : Files → ℕ → Type 0) where
  pub reading_keeps : (names : List (List ℕ)) → ((before now : ShelfState) (text : List ℕ) → completes before now text → now.held ≡ before.held) → ((before now : ShelfState) (text : List ℕ) → refuses_log before now text → now.held ≡ before.held) → EndsKeep (reading_ends completes refuses_log answers) names
  reading_keeps names completed refused = record {
    completed = λ before now text ends. inl (completed before now text ends);
    none = λ before now text never. absurd never;
    undecided = λ before now text never. absurd never;
    log_refused = λ before now text ends. inl (refused before now text ends);
    cuts_refused = λ before now text never. absurd never;
    unwritten = λ before now never. absurd never;
    pieces = λ before now never. absurd never;
  }

  pub reading_quiet : ((before now : ShelfState) (text : List ℕ) → completes before now text → KeepsFaults before now)
      → ((before now : ShelfState) (text : List ℕ) → refuses_log before now text → KeepsFaults before now) → EndsQuiet (reading_ends completes refuses_log answers)
  reading_quiet completed refused = record {
    completed = completed;
    none = λ before now text never. absurd never;
    undecided = λ before now text never. absurd never;
    log_refused = refused;
    cuts_refused = λ before now text never. absurd never;
  }

  pub reading_answers : ((files : Files) → answers files 7)
      → ((files : Files) (before now : ShelfState) (text : List ℕ) → before.held ≡ Some files → completes before now text → answers files 0)
      → ((files : Files) (before now : ShelfState) (text : List ℕ) → before.held ≡ Some files → refuses_log before now text → answers files 8)
      → TablesAnswer (reading_ends completes refuses_log answers)
  reading_answers memory completed refused = record {
    memory = memory;
    completed = completed;
    none = λ files before now text told never. absurd never;
    undecided = λ files before now text told never. absurd never;
    log_refused = refused;
    cuts_refused = λ files before now text told never. absurd never;
    unwritten = λ before now never. absurd never;
  }

-- .. and only completes
module _ (completes : ShelfState → ShelfState → List ℕ → Type 0) where
  pub completing_keeps : (names : List (List ℕ)) → ((before now : ShelfState) (text : List ℕ) → completes before now text → now.held ≡ before.held) → EndsKeep (completing completes) names
  completing_keeps names completed =
      reading_keeps completes (λ before now text. ⊥) (λ files status. (status ≡ 0) ⊎ (status ≡ 7)) names completed (λ before now text never. absurd never)

  pub completing_quiet : ((before now : ShelfState) (text : List ℕ) → completes before now text → KeepsFaults before now) → EndsQuiet (completing completes)
  completing_quiet completed =
      reading_quiet completes (λ before now text. ⊥) (λ files status. (status ≡ 0) ⊎ (status ≡ 7)) completed (λ before now text never. absurd never)

  pub completing_answers : TablesAnswer (completing completes)
  completing_answers =
      reading_answers completes (λ before now text. ⊥) (λ files status. (status ≡ 0) ⊎ (status ≡ 7))
      (λ files. inr refl) (λ files before now text told ends. inl refl) (λ files before now text told never. absurd never)
