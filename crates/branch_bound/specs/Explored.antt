use Rattle.std.specs.Prelude.{◌≡◌, ℕ, ◌≤◌, List, ◌++◌, map, length, Some, ◌<◌, All}
use Rattle.shelf_io.specs.Files.{with_piece}
use Rattle.shelf_io.specs.States.{ShelfState}
use Rattle.shelf_io.specs.Faults.{Rose, KeepsFaults, write_of}
use Rattle.geo_model.specs.Energy.{IsWithin}
use Rattle.geo_model.specs.Network.{NetworkOf}
use Rattle.geo_model.specs.declared.answer.Counts.{Counts}
use Rattle.geo_model.specs.declared.plan.Node.{Node}
use Rattle.bound_log.specs.Counted.{counts_with}
use Rattle.bound_log.specs.CutText.{CutTextOf}
use Rattle.cut_pool.specs.Cut.{CutOf}
use Rattle.cut_pool.specs.declared.share.Share.{Share}
use Rattle.bound_log.specs.DualText.{texts_of_shares}
use Rattle.bound_log.specs.declared.bound.Bound.TheVariants.{AtLeast}
use Rattle.bound_log.specs.declared.log_leaf.LogLeaf.{LogLeaf}
use Rattle.bound_log.specs.declared.log_leaf.LogLeaf.TheVariants.{Dual}
use Rattle.bound_log.specs.declared.log_line.LogLine.{LogLine}
use Rattle.bound_log.specs.declared.log_line.LogLine.TheVariants.{Split, Leaf}
use Rattle.bound_log.specs.Lines.{kind_of}
use Rattle.bound_log.specs.LogTree.{IsOpenAt, IsNodeRefutedBy, IsAllowed, leaf_bound, bound_at}
use Rattle.bound_log.specs.Rules.{IsAllowedLine}
use Rattle.bound_log.specs.Tree.{Tree, tree_lines}
use Rattle.bound_log.specs.declared.bound.Bound.{Bound}
use Rattle.idle_splits.specs.Idle.{IsIdle, IsNoMore}
use Rattle.idle_splits.specs.NoIdle.{HasNoIdle}
use Rattle.branch_bound.specs.declared.best.Best.{Best}
use Rattle.branch_bound.specs.declared.search_fault.SearchFault.{SearchFault}
use Rattle.branch_bound.specs.declared.search_fault.SearchFault.TheVariants as fault
use Rattle.branch_bound.specs.Found.{best_bound, IsPast, IsDone, IsOffered}
use Rattle.branch_bound.specs.Naming.{AreNamesOnce}
use Rattle.branch_bound.specs.Spelled.{SpellsOn}

-- What the parts of a search do. This project's own.

-- a text was added under the started name, and no fault was counted
pub record AddsText (name text : List ℕ) (before now : ShelfState) : Type 0 where
  pub written : now.held ≡ with_piece before.held name text
  pub started : now.started ≡ Some name
  pub quiet : KeepsFaults before now

-- the beginning of a text was added under the name, and then a fault came, for want of memory or as a write failed
pub record BreaksText (name text : List ℕ) (why : SearchFault) (before now : ShelfState) : Type 0 where
  pub piece : List ℕ
  pub rest : List ℕ
  pub begins : text ≡ piece ++ rest
  pub written : now.held ≡ with_piece before.held name piece
  pub later : before.faults ≤ now.faults
  pub failed : why ≡ fault.WriteFault → Rose before.faults now.faults × (now.last_fault ≡ Some (write_of name))
  pub no_memory : why ≡ fault.NoMemory → KeepsFaults before now

-- a node of the network: its plans have an entry for each candidate, and the inner one lies in the upper one
pub record IsNode (network : NetworkOf) (node : Node) : Type 0 where
  pub inside_long : length node.inside ≡ length network.candidates
  pub upper_long : length node.upper ≡ length network.candidates
  pub within : IsWithin node.inside node.upper

-- a leaf ends a node: it is allowed there, and the best plan is brought up to the plans of the node
pub record IsLeafAt (network : NetworkOf) (node : Node) (end : LogLeaf) (before now : Best) : Type 0 where
  pub allowed : IsAllowedLine network node (Leaf end)
  pub done : IsDone network node (leaf_bound network node end) before now

-- shares of a pool's cuts cut a node off: their line is allowed there, and its bound is past the best plan
pub record CutsOff (network : NetworkOf) (node : Node) (found : Best) (pool : List CutOf) (d : ℕ) (shares : List Share) : Type 0 where
  pub price : ℕ
  pub named : All (λ share. share.cut < length pool) shares
  pub allowed : IsAllowedLine network node (Leaf (Dual d (texts_of_shares pool shares)))
  pub bound : leaf_bound network node (Dual d (texts_of_shares pool shares)) ≡ AtLeast price
  pub past : IsPast network found price

-- a line fits a node: a split on an open candidate where no limit refutes the node, which isn't idle beside the price of
-- the best plan and leaves that plan as it was, or a leaf
abbrev pub IsLineAt : NetworkOf → Node → Best → Best → LogLine → Type 0
IsLineAt network node before now (Split candidate) =
    IsOpenAt network node candidate × (now ≡ before) × ((k : ℕ) → IsNodeRefutedBy network node k → ⊥) ×
    (IsIdle network node (best_bound network before) → ⊥)
IsLineAt network node before now (Leaf end) = IsLeafAt network node end before now

-- the line of a node was taken: a proposed plan may become the best one first, and beside that one the line fits the node
pub record TakesLine (network : NetworkOf) (node : Node) (before now : Best) (line : LogLine) : Type 0 where
  pub middle : Best
  pub offered : IsOffered network before middle
  pub here : IsLineAt network node middle now line

-- the plans of a node were explored, where the log has named these cuts before and those now: the lines of a tree of it were
-- added and counted, and the best plan is brought up to the plans of the node, with the tree's bound; no split of the tree
-- is idle, where the price of the best plan before is no more than the bound of what stands before the tree
pub record Explores (network : NetworkOf) (node : Node) (name : List ℕ) (cuts cuts_now : List CutTextOf) (best_before best_now : Best) (counts counts_now : Counts) (before now : ShelfState) : Type 0 where
  pub tree : Tree
  pub text : List ℕ
  pub allowed : IsAllowed network node tree
  pub spells : SpellsOn cuts text (tree_lines tree) cuts_now
  pub added : AddsText name text before now
  pub counted : counts_now ≡ counts_with counts (map kind_of (tree_lines tree))
  pub done : IsDone network node (bound_at network node tree) best_before best_now
  pub no_idle : (earlier : Bound) → IsNoMore (best_bound network best_before) earlier → HasNoIdle network node earlier tree

-- the lines of some tree of the node were begun, where the log has named these cuts before, and then a fault came
pub record BreaksTree (network : NetworkOf) (node : Node) (name : List ℕ) (cuts : List CutTextOf) (why : SearchFault) (before now : ShelfState) : Type 0 where
  pub tree : Tree
  pub text : List ℕ
  pub cuts_then : List CutTextOf
  pub allowed : IsAllowed network node tree
  pub spells : SpellsOn cuts text (tree_lines tree) cuts_then
  pub named : AreNamesOnce network cuts_then
  pub broken : BreaksText name text why before now
