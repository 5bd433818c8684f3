use Rattle.std.specs.Prelude.{ℕ, List, [], ◌∷◌, ◌++◌, codes, flat_map}
use Rattle.std.specs.Fmt.{decimal}
use Rattle.std.specs.List.{join_with_byte}
use Rattle.lent_parts.specs.Pieces.{space}
use Rattle.bound_log.specs.CutText.{cut_words}
use Rattle.bound_log.specs.DualText.{dual_words}
use Rattle.bound_log.specs.declared.log_leaf.LogLeaf.TheVariants.{Cost, Pivot, Cut, Dual}
use Rattle.bound_log.specs.declared.log_line.LogLine.{LogLine}
use Rattle.bound_log.specs.declared.log_line.LogLine.TheVariants.{Split, Leaf}
use Rattle.bound_log.specs.Tree.{Tree, tree_lines}

-- The bytes of a log. This project's own.

-- the end of a line, LF
abbrev pub line_end : List ℕ
line_end = 10 ∷ []

-- the first line of a log without its LF
abbrev pub head_body : List ℕ
head_body = codes "geoplan-log 1"

-- the first line of a log
abbrev pub head_text : List ℕ
head_text = head_body ++ line_end

-- the words of a line: `s C`, `c`, `p L`, `x L M` and M pairs `I V`, or `d D R` and R shares `Y L M` with M pairs
abbrev pub line_words : LogLine → List (List ℕ)
line_words (Split candidate) = codes "s" ∷ decimal candidate ∷ []
line_words (Leaf Cost) = codes "c" ∷ []
line_words (Leaf (Pivot limit)) = codes "p" ∷ decimal limit ∷ []
line_words (Leaf (Cut cut)) = codes "x" ∷ cut_words cut
line_words (Leaf (Dual divisor shares)) = codes "d" ∷ dual_words divisor shares

-- a line without its LF: its words, with one space between two
abbrev pub line_body : LogLine → List ℕ
line_body line = join_with_byte space (line_words line)

-- a line with its LF
abbrev pub line_text : LogLine → List ℕ
line_text line = line_body line ++ line_end

-- lines, one after another
abbrev pub lines_text : List LogLine → List ℕ
lines_text lines = flat_map line_text lines

-- a log with this tree: the first line, and the lines of the tree
abbrev pub log_text : Tree → List ℕ
log_text tree = head_text ++ lines_text (tree_lines tree)
