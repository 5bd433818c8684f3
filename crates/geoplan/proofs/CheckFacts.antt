-- The facts of `check`.
use Rattle.std.proofs.Common.{◌≡◌, inl, inr, ℕ, List, [], refl, sym, subst, Some, Option, None}
use Rattle.std.specs.Prelude.{option_map}
use Rattle.shelf_io.specs.Files.{Files, bytes_of}
use Rattle.shelf_io.specs.Faults.{KeepsFaults}
use Rattle.shelf_io.specs.States.{ShelfState}
use Rattle.log_check.specs.declared.replaying.Replayed.{Replayed}
use Rattle.log_check.specs.Replayed.{IsReplayed}
use Rattle.log_check.proofs.VerdictLemmas.{logs_have_no_fault}
use Rattle.geoplan.specs.declared.file_kind.FileKind.{FileKind}
use Rattle.geoplan.specs.declared.file_kind.FileKind.TheVariants as kind
use Rattle.geoplan.specs.declared.verb.Verb.TheVariants as verb
use Rattle.geoplan.specs.CommandOf.{SourcesOf, reads, behind_tables}
use Rattle.geoplan.specs.Ends.{OnBytes, check_ends}
use Rattle.geoplan.specs.Input.{judged_input}
use Rattle.geoplan.specs.Loading.{ReadsTables, tables_input}
use Rattle.geoplan.specs.Outcomes.{AcceptsLog, RefusesLog, IsRightLog, IsWrongLog, IsCheckStatus}
use Rattle.geoplan.specs.Tables.{TablesOf}
use Rattle.geoplan.proofs.OwedFacts.{EndsKeep, EndsQuiet, TablesAnswer, OwedFacts, reading_keeps, reading_quiet, reading_answers, tables_keep, tables_quiet, tables_answer}

-- a log has no first fault
pub right_log : (tables : TablesOf) (log : List ℕ) (done : Replayed) → IsReplayed tables.network log done → IsRightLog tables log
right_log tables log done replayed = record {
  done = done;
  replayed = replayed;
  faultless = λ fault first. logs_have_no_fault tables.network log replayed.tree fault replayed.log first;
}

-- a text with a first fault is no log
pub wrong_log : (tables : TablesOf) (log : List ℕ) (before now : ShelfState) (text : List ℕ) → RefusesLog tables log before now text → IsWrongLog tables log
wrong_log tables log before now text refuses = record {
  fault = refuses.fault;
  first = refuses.first;
  no_log = λ tree is. logs_have_no_fault tables.network log tree refuses.fault is refuses.first;
}

module _ (sources : SourcesOf) (tables : TablesOf) where
  abbrev Accepts : ShelfState → ShelfState → List ℕ → Type 0
  Accepts before now text = OnBytes sources.log before.held (λ log. AcceptsLog tables log before now text)

  abbrev Refuses : ShelfState → ShelfState → List ℕ → Type 0
  Refuses before now text = OnBytes sources.log before.held (λ log. RefusesLog tables log before now text)

  abbrev Answers : Files → ℕ → Type 0
  Answers files status = IsCheckStatus tables (bytes_of files sources.log) status

  accepted_held : (before now : ShelfState) (text : List ℕ) → Accepts before now text → now.held ≡ before.held
  accepted_held before now text (log, are, accepted) = accepted.held

  refused_held : (before now : ShelfState) (text : List ℕ) → Refuses before now text → now.held ≡ before.held
  refused_held before now text (log, are, refused) = refused.held

  accepted_quiet : (before now : ShelfState) (text : List ℕ) → Accepts before now text → KeepsFaults before now
  accepted_quiet before now text (log, are, accepted) = accepted.quiet

  refused_quiet : (before now : ShelfState) (text : List ℕ) → Refuses before now text → KeepsFaults before now
  refused_quiet before now text (log, are, refused) = refused.quiet

  accepted_answers : (files : Files) (before now : ShelfState) (text : List ℕ) → before.held ≡ Some files → Accepts before now text → Answers files 0
  accepted_answers files before now text told (log, is, accepted) = inl (refl, subst (λ bytes. IsRightLog tables bytes) (sym (is files told)) (right_log tables log accepted.done accepted.replayed))

  refused_answers : (files : Files) (before now : ShelfState) (text : List ℕ) → before.held ≡ Some files → Refuses before now text → Answers files 8
  refused_answers files before now text told (log, is, refused) =
      inr (inl (refl, subst (λ bytes. IsWrongLog tables bytes) (sym (is files told)) (wrong_log tables log before now text refused)))

  keeps : EndsKeep (check_ends sources tables) []
  keeps = reading_keeps Accepts Refuses Answers [] accepted_held refused_held

  quiet : EndsQuiet (check_ends sources tables)
  quiet = reading_quiet Accepts Refuses Answers accepted_quiet refused_quiet

  answers : TablesAnswer (check_ends sources tables)
  answers = reading_answers Accepts Refuses Answers (λ files. inr (inr refl)) accepted_answers refused_answers

judged : (redundancy : ℕ) (bytes : FileKind → List ℕ) (stations : Option (List ℕ)) → judged_input redundancy bytes (behind_tables (reads verb.Check) stations)
    ≡ tables_input redundancy (bytes kind.Points) (bytes kind.Candidates) (option_map (λ name. bytes kind.Stations) stations)
unfolding judged_input tables_input
judged redundancy bytes None = refl
judged redundancy bytes (Some name) = refl

pub reads_tables : ReadsTables verb.Check
reads_tables = record { first = refl; judged = judged }

pub facts : OwedFacts verb.Check
facts = record {
  keeps = λ sources. tables_keep (record { verb = verb.Check; sources = sources }) (check_ends sources) [] (keeps sources);
  quiet = λ sources. tables_quiet (record { verb = verb.Check; sources = sources }) (check_ends sources) (quiet sources);
  answers = λ sources. tables_answer (record { verb = verb.Check; sources = sources }) (check_ends sources) (answers sources);
}
