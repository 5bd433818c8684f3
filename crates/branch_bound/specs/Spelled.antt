use Rattle.std.specs.Prelude.{◌≡◌, ℕ, false, List, [], ◌∷◌, ◌++◌, All, Some, map}
use Rattle.bound_log.specs.CutText.{CutTextOf}
use Rattle.bound_log.specs.Formats.{IsShortLine, texts_in}
use Rattle.bound_log.specs.Meanings.{cuts_named, names_last, nodes_in}
use Rattle.bound_log.specs.declared.log_format.LogFormat.TheVariants.{Second}
use Rattle.bound_log.specs.declared.log_line.LogLine.{LogLine}
use Rattle.bound_log.specs.declared.named_line.NamedLine.{NamedLine}
use Rattle.bound_log.specs.declared.named_line.NamedLine.TheVariants.{Named}

-- What a text says that goes on a log of format 2. This project's own.

-- Where these cuts are named before it, a text is lines of format 2 that stand for these lines of a tree, and after it those
-- cuts are named. No name is last, so each one stands where a node is open.
pub record SpellsOn (before : List CutTextOf) (text : List ℕ) (nodes : List LogLine) (now : List CutTextOf) : Type 0 where
  pub lines : List NamedLine
  pub spelled : text ≡ texts_in Second lines
  pub short : All (IsShortLine Second) lines
  pub stand : nodes_in Second before lines ≡ Some nodes
  pub named : now ≡ before ++ cuts_named Second lines
  pub last : names_last Second lines ≡ false

-- the lines that name these further cuts were put at the end of a text
pub record PutsNames (before : List CutTextOf) (out out_now : List ℕ) (now : List CutTextOf) : Type 0 where
  pub cuts : List CutTextOf
  pub named : now ≡ before ++ cuts
  pub put : out_now ≡ out ++ texts_in Second (map Named cuts)
  pub short : All (IsShortLine Second) (map Named cuts)

-- a line of a tree was put at the end of a text, after the names that it needs besides
pub record PutsLine (before : List CutTextOf) (out out_now : List ℕ) (node : LogLine) (now : List CutTextOf) : Type 0 where
  pub text : List ℕ
  pub put : out_now ≡ out ++ text
  pub spells : SpellsOn before text (node ∷ []) now
