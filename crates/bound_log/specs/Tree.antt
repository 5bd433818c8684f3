use Rattle.std.specs.Prelude.{ℕ, List, [], ◌∷◌, ◌++◌}
use Rattle.bound_log.specs.declared.log_leaf.LogLeaf.{LogLeaf}
use Rattle.bound_log.specs.declared.log_line.LogLine.{LogLine}
use Rattle.bound_log.specs.declared.log_line.LogLine.TheVariants.{Split, Leaf}

-- The lines of a log are the nodes of a tree, in preorder. This project's own.

-- a tree: a split on a candidate with the child that chooses it and the child that leaves it out, or a leaf
pub data Tree : Type 0 where
  fork : ℕ → Tree → Tree → Tree
  tip : LogLeaf → Tree

-- the lines of a tree, in preorder
abbrev pub tree_lines : Tree → List LogLine
tree_lines (fork candidate with_it without_it) = Split candidate ∷ (tree_lines with_it ++ tree_lines without_it)
tree_lines (tip end) = Leaf end ∷ []
