use Rattle.std.specs.Prelude.{◌≡◌, ℕ, List}
use Rattle.geo_model.specs.Network.{NetworkOf}
use Rattle.geo_model.specs.declared.answer.SearchDone.{SearchDone}
use Rattle.bound_log.specs.LogTree.{IsLog}
use Rattle.bound_log.specs.Tree.{Tree}
use Rattle.bound_log.specs.declared.log_format.LogFormat.TheVariants.{Second}
use Rattle.branch_bound.specs.declared.search_fault.SearchFault.{SearchFault}
use Rattle.shelf_io.specs.States.{ShelfState}
use Rattle.branch_bound.specs.Explored.{AddsText, BreaksText}
use Rattle.branch_bound.specs.Naming.{AreOnce}
use Rattle.branch_bound.specs.Searched.{IsSearched}

-- What a search leaves on a shelf. This project's own.

-- a log is of format 2 and names no cut twice
pub record NamesEachOnce (network : NetworkOf) (text : List ℕ) (tree : Tree) (log : IsLog network text tree) : Type 0 where
  pub second : log.format ≡ Second
  pub once : AreOnce log.cuts

-- one whole log was added under the name, its lines are counted, and the answer is what the log says
pub record Searches (network : NetworkOf) (name : List ℕ) (done : SearchDone) (before now : ShelfState) : Type 0 where
  pub tree : Tree
  pub text : List ℕ
  pub log : IsLog network text tree
  pub names : NamesEachOnce network text tree log
  pub searched : IsSearched network tree done
  pub added : AddsText name text before now

-- the beginning of a log of the network was added under the name, and then a fault came
pub record BreaksLog (network : NetworkOf) (name : List ℕ) (why : SearchFault) (before now : ShelfState) : Type 0 where
  pub tree : Tree
  pub text : List ℕ
  pub log : IsLog network text tree
  pub names : NamesEachOnce network text tree log
  pub broken : BreaksText name text why before now
