use Rattle.std.specs.Prelude.{◌≡◌, ◌⊎◌, ℕ, ◌≤◌, List, [], Some}
use Rattle.shelf_io.specs.Files.{with_bytes}
use Rattle.shelf_io.specs.Faults.{Rose, KeepsFaults, write_of}
use Rattle.geo_model.specs.declared.answer.SearchDone.{SearchDone}
use Rattle.bound_log.specs.LogTree.{IsLog}
use Rattle.bound_log.specs.Tree.{Tree}
use Rattle.branch_bound.specs.declared.search_fault.SearchFault.{SearchFault}
use Rattle.branch_bound.specs.declared.search_fault.SearchFault.TheVariants as search
use Rattle.shelf_io.specs.States.{ShelfState}
use Rattle.branch_bound.specs.Searched.{IsSearched}
use Rattle.geoplan.specs.Outcomes.{FindsPlan, FindsNone, LeavesOpen, BeganLog, FailsToWrite}
use Rattle.geoplan.specs.Tables.{TablesOf}
use Rattle.geoplan.specs.declared.status.Status.{Status}
use Rattle.geoplan.specs.declared.status.Status.TheVariants as status

-- What searching the tables' network does. Only private clauses and proofs cite it. This project's own.

-- the search is done, and its whole log stands under the name
pub record Solves (tables : TablesOf) (log : List ℕ) (done : SearchDone) (before now : ShelfState) : Type 0 where
  pub tree : Tree
  pub text : List ℕ
  pub spelled : IsLog tables.network text tree
  pub searched : IsSearched tables.network tree done
  pub written : now.held ≡ with_bytes before.held log text
  pub quiet : KeepsFaults before now

-- the search ended by a fault
pub record FailsSolve (tables : TablesOf) (log : List ℕ) (why : SearchFault) (before now : ShelfState) : Type 0 where
  pub held : (now.held ≡ before.held) ⊎ BeganLog tables log before.held now.held
  pub later : before.faults ≤ now.faults
  pub failed : why ≡ search.WriteFault → Rose before.faults now.faults × (now.last_fault ≡ Some (write_of log))
  pub no_memory : why ≡ search.NoMemory → KeepsFaults before now

-- memory ran out in a search, or before its answer was spelled
pub record RunsOutPlanning (tables : TablesOf) (log : List ℕ) (before now : ShelfState) (text : List ℕ) : Type 0 where
  pub held : (now.held ≡ before.held) ⊎ BeganLog tables log before.held now.held
  pub quiet : KeepsFaults before now
  pub printed : text ≡ []

-- what a status says of a search whose answer is reported
abbrev pub Plans : TablesOf → List ℕ → ShelfState → ShelfState → Status → List ℕ → Type 0
Plans tables log before now status.Found text = FindsPlan tables log before now text
Plans tables log before now status.NoPlan text = FindsNone tables log before now text
Plans tables log before now status.WordsRefused text = ⊥
Plans tables log before now status.TableRefused text = ⊥
Plans tables log before now status.Undecided text = LeavesOpen tables log before now text
Plans tables log before now status.ReadFault text = ⊥
Plans tables log before now status.WriteFault text = FailsToWrite tables log before now × (text ≡ [])
Plans tables log before now status.NoMemory text = RunsOutPlanning tables log before now text
Plans tables log before now status.LogRefused text = ⊥
Plans tables log before now status.FileTooLong text = ⊥
Plans tables log before now status.TooManyCuts text = ⊥
