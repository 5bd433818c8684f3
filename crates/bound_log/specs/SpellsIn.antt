-- This text spells this tree. This project's own.
use Rattle.std.specs.Prelude.{◌≡◌, ℕ, false, List, [], Some}
use Rattle.bound_log.specs.declared.log_format.LogFormat.{LogFormat}
use Rattle.bound_log.specs.CutText.{CutTextOf}
use Rattle.bound_log.specs.Formats.{BeginsIn, LineIn}
use Rattle.bound_log.specs.Meanings.{cuts_named, names_last, nodes_in}
use Rattle.bound_log.specs.Tree.{Tree, tree_lines}

-- This text of a format spells this tree and names these cuts: it is the first line of the format and lines of its grammar,
-- which stand for the tree's lines, and nothing is left. No name is last, so each one stands where a node is open.
pub record SpellsIn (format : LogFormat) (text : List ℕ) (cuts : List CutTextOf) (tree : Tree) : Type 0 where
  pub lines : List (LineIn format)
  pub begins : BeginsIn format text lines []
  pub stand : nodes_in format [] lines ≡ Some (tree_lines tree)
  pub named : cuts_named format lines ≡ cuts
  pub last : names_last format lines ≡ false
