-- The lines of a tree with their nodes. This project's own.
use Rattle.std.specs.Prelude.{List, [], ◌∷◌, ◌++◌}
use Rattle.geo_model.specs.declared.plan.Node.{Node}
use Rattle.bound_log.specs.LogTree.{with_chosen, without_chosen}
use Rattle.bound_log.specs.declared.log_line.LogLine.{LogLine}
use Rattle.bound_log.specs.declared.log_line.LogLine.TheVariants.{Split, Leaf}
use Rattle.bound_log.specs.Tree.{Tree, fork, tip}

-- each line of a tree that stands at a node, with the line's own node, in preorder
abbrev pub placed : Node → Tree → List (Node × LogLine)
placed node (tip end) = (node, Leaf end) ∷ []
placed node (fork candidate with_it without_it) =
    (node, Split candidate) ∷ (placed (with_chosen node candidate) with_it ++ placed (without_chosen node candidate) without_it)
