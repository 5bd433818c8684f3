-- The facts of `trial`.
use Rattle.std.proofs.Common.{◌≡◌, ℕ, List, [], refl, Option, None, Some}
use Rattle.std.specs.Prelude.{option_map}
use Rattle.shelf_io.specs.Faults.{KeepsFaults}
use Rattle.shelf_io.specs.States.{ShelfState}
use Rattle.geoplan.specs.declared.file_kind.FileKind.{FileKind}
use Rattle.geoplan.specs.declared.file_kind.FileKind.TheVariants as kind
use Rattle.geoplan.specs.declared.verb.Verb.TheVariants as verb
use Rattle.geoplan.specs.CommandOf.{SourcesOf, reads, behind_tables}
use Rattle.geoplan.specs.Ends.{OnBytes, trial_ends}
use Rattle.geoplan.specs.Input.{judged_input}
use Rattle.geoplan.specs.Loading.{ReadsTables, tables_input}
use Rattle.geoplan.specs.Tables.{TablesOf}
use Rattle.geoplan.specs.Trials.{AnswersScript}
use Rattle.geoplan.proofs.OwedFacts.{OwedFacts, completing_keeps, completing_quiet, completing_answers, tables_keep, tables_quiet, tables_answer}

module _ (sources : SourcesOf) (tables : TablesOf) where
  abbrev Answers : ShelfState → ShelfState → List ℕ → Type 0
  Answers before now text = OnBytes sources.script before.held (λ script. AnswersScript tables script before now text)

  answered_held : (before now : ShelfState) (text : List ℕ) → Answers before now text → now.held ≡ before.held
  answered_held before now text (script, are, answered) = answered.held

  answered_quiet : (before now : ShelfState) (text : List ℕ) → Answers before now text → KeepsFaults before now
  answered_quiet before now text (script, are, answered) = answered.quiet

judged : (redundancy : ℕ) (bytes : FileKind → List ℕ) (stations : Option (List ℕ)) → judged_input redundancy bytes (behind_tables (reads verb.Trial) stations)
    ≡ tables_input redundancy (bytes kind.Points) (bytes kind.Candidates) (option_map (λ name. bytes kind.Stations) stations)
unfolding judged_input tables_input
judged redundancy bytes None = refl
judged redundancy bytes (Some name) = refl

pub reads_tables : ReadsTables verb.Trial
reads_tables = record { first = refl; judged = judged }

pub facts : OwedFacts verb.Trial
facts = record {
  keeps = λ sources.
      tables_keep (record { verb = verb.Trial; sources = sources }) (trial_ends sources) []
      (λ tables. completing_keeps (Answers sources tables) [] (answered_held sources tables));
  quiet = λ sources.
      tables_quiet (record { verb = verb.Trial; sources = sources }) (trial_ends sources) (λ tables. completing_quiet (Answers sources tables) (answered_quiet sources tables));
  answers = λ sources.
      tables_answer (record { verb = verb.Trial; sources = sources }) (trial_ends sources) (λ tables. completing_answers (Answers sources tables));
}
