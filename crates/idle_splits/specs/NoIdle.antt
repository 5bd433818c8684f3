use Rattle.std.specs.Prelude.{◌≡◌, ◌↔◌, ℕ, List, ◌∷◌, ◌++◌, Any}
use Rattle.geo_model.specs.Network.{NetworkOf}
use Rattle.geo_model.specs.declared.plan.Node.{Node}
use Rattle.bound_log.specs.Bound.{lesser}
use Rattle.bound_log.specs.declared.bound.Bound.{Bound}
use Rattle.bound_log.specs.declared.bound.Bound.TheVariants.{NoPlan, AtLeast}
use Rattle.bound_log.specs.declared.log_line.LogLine.{LogLine}
use Rattle.bound_log.specs.declared.log_line.LogLine.TheVariants.{Split, Leaf}
use Rattle.bound_log.specs.LogTree.{root_of, with_chosen, without_chosen, bound_at, line_bound}
use Rattle.bound_log.specs.Placed.{placed}
use Rattle.bound_log.specs.Tree.{Tree, fork, tip}
use Rattle.idle_splits.specs.Idle.{IsIdle}

-- Logs without idle splits. This project's own.

-- No split of a tree is idle, where the lines before the tree have this bound: what stands before a
-- second child is that, and the first child.
abbrev pub HasNoIdle : NetworkOf → Node → Bound → Tree → Type 0
HasNoIdle network node earlier (tip end) = Unit {0}
HasNoIdle network node earlier (fork candidate with_it without_it) =
    (IsIdle network node earlier → ⊥) × HasNoIdle network (with_chosen node candidate) earlier with_it ×
    HasNoIdle network (without_chosen node candidate) (lesser earlier (bound_at network (with_chosen node candidate) with_it)) without_it

-- ---- the same over the lines of a log in preorder, each with its node

-- the bound of a line at its node
abbrev pub placed_line_bound : NetworkOf → Node × LogLine → Bound
placed_line_bound network (node, line) = line_bound network node line

-- an earlier bound is that of one of the lines before, or none
abbrev pub IsEarlier : NetworkOf → List (Node × LogLine) → Bound → Type 0
IsEarlier network before NoPlan = Unit {0}
IsEarlier network before (AtLeast price) = Any (λ line. placed_line_bound network line ≡ AtLeast price) before

-- no split among the lines is idle beside an earlier bound
abbrev pub NoSplitIsIdle : NetworkOf → List (Node × LogLine) → Type 0
NoSplitIsIdle network lines =
    (before after : List (Node × LogLine)) (node : Node) (candidate : ℕ) (earlier : Bound) → lines ≡ before ++ ((node, Split candidate) ∷ after) →
    IsEarlier network before earlier → IsIdle network node earlier → ⊥

-- both say the same of a whole log
abbrev pub LogsWithoutIdleSplits : Type 0
LogsWithoutIdleSplits =
    (network : NetworkOf) (tree : Tree) →
    HasNoIdle network (root_of network) NoPlan tree ↔ NoSplitIsIdle network (placed (root_of network) tree)
