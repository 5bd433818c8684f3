-- The facts of `plan`.
use Rattle.std.proofs.Common.{◌≡◌, inl, inr, ℕ, List, [], ◌∷◌, refl, sym, arith, Option, None, Some}
use Rattle.std.specs.Prelude.{Contains, option_map}
use Rattle.std.proofs.lemmas.List.{append-nil}
use Rattle.shelf_io.specs.States.{ShelfState}
use Rattle.log_check.specs.declared.replaying.Replayed.{Replayed}
use Rattle.geoplan.specs.declared.file_kind.FileKind.{FileKind}
use Rattle.geoplan.specs.declared.file_kind.FileKind.TheVariants as kind
use Rattle.geoplan.specs.declared.verb.Verb.TheVariants as verb
use Rattle.geoplan.specs.CommandOf.{SourcesOf, reads, behind_tables, names_written}
use Rattle.geoplan.specs.Ends.{plan_ends}
use Rattle.geoplan.specs.Input.{judged_input}
use Rattle.geoplan.specs.Loading.{ReadsTables, tables_input}
use Rattle.geoplan.specs.Outcomes.{LeavesLog, BeganLog}
use Rattle.geoplan.specs.Tables.{TablesOf}
use Rattle.geoplan.proofs.OwedFacts.{EndsKeep, EndsQuiet, TablesAnswer, OwedFacts, tables_keep, tables_quiet, tables_answer}

-- a whole log is a beginning of a log
pub whole_began : (tables : TablesOf) (name : List ℕ) (done : Replayed) (before now : ShelfState) → LeavesLog tables name done before now → BeganLog tables name before.held now.held
whole_began tables name done before now leaves = record {
  tree = leaves.replayed.tree;
  text = leaves.log;
  piece = leaves.log;
  rest = [];
  log = leaves.replayed.log;
  begins = sym (append-nil leaves.log);
  written = leaves.written;
}

only_one : (name : List ℕ) → Contains (name ∷ []) name
only_one name = (0, omega arith, refl)

keeps : (sources : SourcesOf) (tables : TablesOf) → EndsKeep (plan_ends sources tables) (names_written (record { verb = verb.Plan; sources = sources }))
keeps sources tables = record {
  completed = λ before now text found. inr (whole_began tables sources.log _ before now found.leaves);
  none = λ before now text found. inr (whole_began tables sources.log _ before now found.leaves);
  undecided = λ before now text left. inr (whole_began tables sources.log _ before now left.leaves);
  log_refused = λ before now text never. absurd never;
  cuts_refused = λ before now text never. absurd never;
  unwritten = λ before now failed. failed.held;
  pieces = λ before now began. record { pieces = (sources.log, began.piece) ∷ []; named = (only_one sources.log, tt); held = began.written };
}

quiet : (sources : SourcesOf) (tables : TablesOf) → EndsQuiet (plan_ends sources tables)
quiet sources tables = record {
  completed = λ before now text found. found.leaves.quiet;
  none = λ before now text found. found.leaves.quiet;
  undecided = λ before now text left. left.leaves.quiet;
  log_refused = λ before now text never. absurd never;
  cuts_refused = λ before now text never. absurd never;
}

answers : (sources : SourcesOf) (tables : TablesOf) → TablesAnswer (plan_ends sources tables)
answers sources tables = record {
  memory = λ files. inr (inr (inr refl));
  completed = λ files before now text told found. inl refl;
  none = λ files before now text told found. inr (inl refl);
  undecided = λ files before now text told left. inr (inr (inl refl));
  log_refused = λ files before now text told never. absurd never;
  cuts_refused = λ files before now text told never. absurd never;
  unwritten = λ before now failed. failed.rose;
}

judged : (redundancy : ℕ) (bytes : FileKind → List ℕ) (stations : Option (List ℕ)) → judged_input redundancy bytes (behind_tables (reads verb.Plan) stations)
    ≡ tables_input redundancy (bytes kind.Points) (bytes kind.Candidates) (option_map (λ name. bytes kind.Stations) stations)
unfolding judged_input tables_input
judged redundancy bytes None = refl
judged redundancy bytes (Some name) = refl

pub reads_tables : ReadsTables verb.Plan
reads_tables = record { first = refl; judged = judged }

pub facts : OwedFacts verb.Plan
facts = record {
  keeps = λ sources. tables_keep (record { verb = verb.Plan; sources = sources }) (plan_ends sources) (names_written (record { verb = verb.Plan; sources = sources })) (keeps sources);
  quiet = λ sources. tables_quiet (record { verb = verb.Plan; sources = sources }) (plan_ends sources) (quiet sources);
  answers = λ sources. tables_answer (record { verb = verb.Plan; sources = sources }) (plan_ends sources) (answers sources);
}
