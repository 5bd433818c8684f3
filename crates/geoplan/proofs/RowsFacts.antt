-- The facts of `rows`.
use Rattle.std.proofs.Common.{◌≡◌, ℕ, List, [], refl, Option, None, Some}
use Rattle.std.specs.Prelude.{option_map}
use Rattle.geoplan.specs.declared.file_kind.FileKind.{FileKind}
use Rattle.geoplan.specs.declared.file_kind.FileKind.TheVariants as kind
use Rattle.geoplan.specs.declared.verb.Verb.TheVariants as verb
use Rattle.geoplan.specs.CommandOf.{reads, behind_tables}
use Rattle.geoplan.specs.Input.{judged_input}
use Rattle.geoplan.specs.Ends.{completing}
use Rattle.geoplan.specs.Loading.{ReadsTables, tables_input}
use Rattle.geoplan.specs.Outcomes.{ListsRows}
use Rattle.geoplan.proofs.OwedFacts.{OwedFacts, completing_keeps, completing_quiet, completing_answers, tables_keep, tables_quiet, tables_answer}

judged : (redundancy : ℕ) (bytes : FileKind → List ℕ) (stations : Option (List ℕ)) → judged_input redundancy bytes (behind_tables (reads verb.Rows) stations)
    ≡ tables_input redundancy (bytes kind.Points) (bytes kind.Candidates) (option_map (λ name. bytes kind.Stations) stations)
unfolding judged_input tables_input
judged redundancy bytes None = refl
judged redundancy bytes (Some name) = refl

pub reads_tables : ReadsTables verb.Rows
reads_tables = record { first = refl; judged = judged }

pub facts : OwedFacts verb.Rows
facts = record {
  keeps = λ sources.
      tables_keep (record { verb = verb.Rows; sources = sources }) (λ tables. completing (ListsRows tables)) []
      (λ tables. completing_keeps (ListsRows tables) [] (λ before now text listed. listed.held));
  quiet = λ sources.
      tables_quiet (record { verb = verb.Rows; sources = sources }) (λ tables. completing (ListsRows tables))
      (λ tables. completing_quiet (ListsRows tables) (λ before now text listed. listed.quiet));
  answers = λ sources.
      tables_answer (record { verb = verb.Rows; sources = sources }) (λ tables. completing (ListsRows tables)) (λ tables. completing_answers (ListsRows tables));
}
