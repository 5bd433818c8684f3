-- The lines of format 2 of a tree with each cut named once, right before the first line that uses it. This project's own.
use Rattle.std.specs.Prelude.{ℕ, ℤ, ltb, ◌==◌, ◌&&◌, Bool, if◌then◌else◌, List, [], ◌∷◌, ◌++◌, flat_map, length, map}
use Rattle.std.specs.Cmp.Lexicographic.{pointwise}
use Rattle.std.specs.List.{position_or_len}
use Rattle.std.specs.Ordering.{int_eq}
use Rattle.bound_log.specs.CutText.{CutTextOf}
use Rattle.bound_log.specs.Formats.{head_text_in, texts_in}
use Rattle.bound_log.specs.Tree.{Tree, tree_lines}
use Rattle.bound_log.specs.declared.log_format.LogFormat.TheVariants.{Second}
use Rattle.bound_log.specs.declared.log_leaf.LogLeaf.TheVariants.{Cost, Pivot, Cut, Dual}
use Rattle.bound_log.specs.declared.log_line.LogLine.{LogLine}
use Rattle.bound_log.specs.declared.log_line.LogLine.TheVariants.{Split, Leaf}
use Rattle.bound_log.specs.declared.named_line.NamedLine.{NamedLine}
use Rattle.bound_log.specs.declared.named_line.NamedLine.TheVariants as named_line

-- ---- cuts

abbrev pub is_same_pair : ℕ × ℤ → ℕ × ℤ → Bool
is_same_pair a b = a.0 == b.0 && int_eq a.1 b.1

-- two cuts are the same: they have one limit and the same pairs
abbrev pub is_same_cut : CutTextOf → CutTextOf → Bool
is_same_cut a b = a.limit == b.limit && pointwise is_same_pair a.pairs b.pairs

-- the number of a cut where these are named, one after another from 0 on. Where it is none of them it is how many they are:
-- the number that it gets once it is named.
abbrev pub number_among : List CutTextOf → CutTextOf → ℕ
number_among named cut = position_or_len (is_same_cut cut) named

-- the cuts that a line of a tree uses, in the order of its shares
abbrev pub cuts_used : LogLine → List CutTextOf
cuts_used (Split candidate) = []
cuts_used (Leaf Cost) = []
cuts_used (Leaf (Pivot limit)) = []
cuts_used (Leaf (Cut cut)) = cut ∷ []
cuts_used (Leaf (Dual divisor shares)) = map (λ share. share.1) shares

-- of cuts that are used one after another those that aren't among the named ones, each once, where it comes first
abbrev pub first_used : List CutTextOf → List CutTextOf → List CutTextOf
first_used named [] = []
first_used named (cut ∷ used) =
    if ltb (number_among named cut) (length named) then first_used named used else cut ∷ first_used (named ++ cut ∷ []) used

-- ---- lines

-- a share with its cut's number in place of the cut
abbrev pub numbered_share : List CutTextOf → ℕ × CutTextOf → ℕ × ℕ
numbered_share named share = (share.0, number_among named share.1)

-- a line of a tree with each cut's number in place of the cut
abbrev pub numbered_line : List CutTextOf → LogLine → NamedLine
numbered_line named (Split candidate) = named_line.Split candidate
numbered_line named (Leaf Cost) = named_line.Cost
numbered_line named (Leaf (Pivot limit)) = named_line.Pivot limit
numbered_line named (Leaf (Cut cut)) = named_line.UseCut (number_among named cut)
numbered_line named (Leaf (Dual divisor shares)) = named_line.UseDual divisor (map (numbered_share named) shares)

-- the cuts that are named once a line has been written
abbrev pub named_after : List CutTextOf → LogLine → List CutTextOf
named_after named line = named ++ first_used named (cuts_used line)

-- a line of a tree, behind the names of the cuts that it uses and that no line before it has used
abbrev pub line_with_names : List CutTextOf → LogLine → List NamedLine
line_with_names named line = map named_line.Named (first_used named (cuts_used line)) ++ numbered_line (named_after named line) line ∷ []

-- lines of a tree, each likewise, where these cuts are named before them
abbrev pub lines_with_names : List CutTextOf → List LogLine → List NamedLine
lines_with_names named [] = []
lines_with_names named (line ∷ lines) = line_with_names named line ++ lines_with_names (named_after named line) lines

-- the cuts that lines of a tree use, each once, in the order of their first uses
abbrev pub cuts_needed : List LogLine → List CutTextOf
cuts_needed lines = first_used [] (flat_map cuts_used lines)

-- the log of format 2 with this tree that names each cut once, right before the first line that uses it
abbrev pub migrated_text : Tree → List ℕ
migrated_text tree = head_text_in Second ++ texts_in Second (lines_with_names [] (tree_lines tree))
