use Rattle.std.proofs.Common.{◌≡◌, ◌⊎◌, inl, inr, ◌≤◌, ℕ, List, [], refl, ap, ◌∙◌, subst, Option, Some, Result, Ok, Err}
use Rattle.std.specs.Prelude.{IfOk, IfErr}
use Rattle.shelf_io.specs.Files.{Files, with_bytes, with_piece}
use Rattle.shelf_io.specs.Faults.{Rose, KeepsFaults, write_of}
use Rattle.shelf_io.proofs.FileLaws.{with_piece-with_bytes}
use Rattle.geo_model.specs.declared.answer.SearchDone.{SearchDone}
use Rattle.bound_log.proofs.MeaningLemmas.{cost_log}
use Rattle.bound_log.specs.LogText.{log_text}
use Rattle.bound_log.specs.declared.log_leaf.LogLeaf.TheVariants.{Cost}
use Rattle.bound_log.specs.Tree.{tip}
use Rattle.branch_bound.specs.declared.search_fault.SearchFault.{SearchFault}
use Rattle.branch_bound.specs.declared.search_fault.SearchFault.TheVariants as search
use Rattle.shelf_io.specs.States.{ShelfState}
use Rattle.branch_bound.specs.Logged.{Searches, BreaksLog}
use Rattle.geoplan.specs.Outcomes.{BeganLog}
use Rattle.geoplan.specs.Tables.{TablesOf}
use Rattle.geoplan.specs.Solving.{Solves, FailsSolve}
use Rattle.geoplan.proofs.LoadLemmas.{keeps}

-- Laws of a log that is started and then written.

-- a log started and written whole
Solves-after : (tables : TablesOf) (log : List ℕ) (done : SearchDone) (before middle now : ShelfState) → middle.held ≡ with_bytes before.held log [] → KeepsFaults before middle → Searches tables.network log done middle now → Solves tables log done before now
Solves-after tables log done before middle now started quiet found = record {
  tree = found.tree;
  text = found.text;
  spelled = found.log;
  searched = found.searched;
  written = found.added.written ∙ ap (λ held. with_piece held log found.text) started ∙ with_piece-with_bytes before.held log [] found.text;
  quiet = keeps before middle now found.added.quiet quiet;
}

-- a log started and begun
FailsSolve-after : (tables : TablesOf) (log : List ℕ) (why : SearchFault) (before middle now : ShelfState) → middle.held ≡ with_bytes before.held log [] → KeepsFaults before middle → BreaksLog tables.network log why middle now → FailsSolve tables log why before now
FailsSolve-after tables log why before middle now started quiet found = record {
  held = inr (record {
    tree = found.tree;
    text = found.text;
    piece = found.broken.piece;
    rest = found.broken.rest;
    log = found.log;
    begins = found.broken.begins;
    written = found.broken.written ∙ ap (λ held. with_piece held log found.broken.piece) started ∙ with_piece-with_bytes before.held log [] found.broken.piece;
  });
  later = subst (λ n. n ≤ now.faults) quiet.same_count found.broken.later;
  failed = λ is. let rose = found.broken.failed is in (subst (λ n. Rose n now.faults) quiet.same_count rose.0, rose.1);
  no_memory = λ is. keeps before middle now (found.broken.no_memory is) quiet;
}

-- a log that could not be started stands as before, or empty
started_or_not : (tables : TablesOf) (log : List ℕ) (before now : Option Files) → (now ≡ before) ⊎ (now ≡ with_bytes before log []) → (now ≡ before) ⊎ BeganLog tables log before now
started_or_not tables log before now (inl same) = inl same
started_or_not tables log before now (inr empty) = inr (record { tree = tip Cost; text = log_text (tip Cost); piece = []; rest = log_text (tip Cost); log = cost_log tables.network; begins = refl; written = empty })

pub FailsSolve-start : (tables : TablesOf) (log : List ℕ) (why : SearchFault) (before now : ShelfState) → (now.held ≡ before.held) ⊎ (now.held ≡ with_bytes before.held log []) → before.faults ≤ now.faults → (why ≡ search.WriteFault → Rose before.faults now.faults × (now.last_fault ≡ Some (write_of log))) → (why ≡ search.NoMemory → KeepsFaults before now) → FailsSolve tables log why before now
FailsSolve-start tables log why before now held later failed no_memory = record {
  held = started_or_not tables log before.held now.held held;
  later = later;
  failed = failed;
  no_memory = no_memory;
}

-- ---- the answer of a search after a log is started

module _ (tables : TablesOf) (log : List ℕ) (before middle now : ShelfState) (started : middle.held ≡ with_bytes before.held log []) (quiet : KeepsFaults before middle) where
  pub solved-answer : (answer : Result SearchDone SearchFault) → IfOk answer (λ done. Searches tables.network log done middle now) → IfOk answer (λ done. Solves tables log done before now)
  solved-answer (Ok done) found = Solves-after tables log done before middle now started quiet found
  solved-answer (Err why) found = tt

  pub failed-answer : (answer : Result SearchDone SearchFault) → IfErr answer (λ why. BreaksLog tables.network log why middle now) → IfErr answer (λ why. FailsSolve tables log why before now)
  failed-answer (Ok done) broken = tt
  failed-answer (Err why) broken = FailsSolve-after tables log why before middle now started quiet broken
