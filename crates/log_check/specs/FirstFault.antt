-- The first fault of a text that is no log, of either format. This project's own: it speaks of trees, and of no list of open
-- nodes.
use Rattle.std.specs.Prelude.{◌≡◌, ℕ, ◌+◌, true, false, List, [], ◌∷◌, ◌++◌, length, map, Some, None}
use Rattle.geo_model.specs.Network.{NetworkOf}
use Rattle.geo_model.specs.declared.plan.Node.{Node}
use Rattle.bound_log.specs.declared.log_format.LogFormat.{LogFormat}
use Rattle.bound_log.specs.declared.log_kind.LogKind.{LogKind}
use Rattle.bound_log.specs.declared.log_kind.LogKind.TheVariants.{Extra, Form, Short}
use Rattle.bound_log.specs.declared.log_line.LogLine.{LogLine}
use Rattle.bound_log.specs.CutText.{CutTextOf}
use Rattle.bound_log.specs.Formats.{BeginsIn, LineIn, NextIn}
use Rattle.bound_log.specs.LogTree.{root_of, IsAllowed}
use Rattle.bound_log.specs.Meanings.{AreNames, Meaning, cuts_named, meaning_in, names_last, nodes_in, meaning_rules}
use Rattle.bound_log.specs.Placed.{placed}
use Rattle.bound_log.specs.Rules.{first_unkept}
use Rattle.bound_log.specs.Tree.{Tree, tree_lines}
use Rattle.log_check.specs.declared.fault.LogFault.{LogFault}

-- ---- right lines

-- a log of the network begins with these lines: they stand for the first lines of a tree and name cuts, and where the last one
-- is a name, lines of the tree follow
pub record LogBegins (network : NetworkOf) (format : LogFormat) (lines : List (LineIn format)) : Type 0 where
  pub nodes : List LogLine
  pub stand : nodes_in format [] lines ≡ Some nodes
  pub names : AreNames network (cuts_named format lines)
  pub tree : Tree
  pub rest : List LogLine
  pub allowed : IsAllowed network (root_of network) tree
  pub begins : tree_lines tree ≡ nodes ++ rest
  pub last : names_last format lines ≡ true → rest ≡ [] → ⊥

-- these are all the lines of a log of the network
pub record IsWhole (network : NetworkOf) (format : LogFormat) (lines : List (LineIn format)) : Type 0 where
  pub tree : Tree
  pub stand : nodes_in format [] lines ≡ Some (tree_lines tree)
  pub names : AreNames network (cuts_named format lines)
  pub allowed : IsAllowed network (root_of network) tree
  pub last : names_last format lines ≡ false

-- after these lines, the next line of the tree of some log of the network stands at this node
pub record StandsNext (network : NetworkOf) (format : LogFormat) (lines : List (LineIn format)) (node : Node) : Type 0 where
  pub tree : Tree
  pub before : List (Node × LogLine)
  pub next : LogLine
  pub after : List (Node × LogLine)
  pub allowed : IsAllowed network (root_of network) tree
  pub parts : placed (root_of network) tree ≡ before ++ (node, next) ∷ after
  pub stand : nodes_in format [] lines ≡ Some (map (λ at. at.1) before)

-- ---- the rules of a line after them

-- what a line says breaks no rule at a node, where these cuts are named
abbrev pub KeepsRules : NetworkOf → List CutTextOf → Node → Meaning → Type 0
KeepsRules network cuts node said = first_unkept (meaning_rules network cuts node said) ≡ None

-- .. or this kind of rule is the first that it breaks
abbrev pub BreaksFirst : NetworkOf → List CutTextOf → Node → Meaning → LogKind → Type 0
BreaksFirst network cuts node said kind = first_unkept (meaning_rules network cuts node said) ≡ Some kind

-- ---- the text after them

-- What is wrong where these right lines are followed by this text: the tree is whole and text is left; or it isn't whole, and
-- no text is left, or no line of the format's grammar comes next, or one comes that breaks a rule at its node, with the cuts
-- named that the lines name.
pub data IsFaultAfter (network : NetworkOf) (format : LogFormat) (lines : List (LineIn format)) (text : List ℕ) (kind : LogKind) : Type 0 where
  extra : kind ≡ Extra → IsWhole network format lines → (text ≡ [] → ⊥) → IsFaultAfter network format lines text kind
  short : kind ≡ Short → (IsWhole network format lines → ⊥) → text ≡ [] → IsFaultAfter network format lines text kind
  form : kind ≡ Form → (IsWhole network format lines → ⊥) → (text ≡ [] → ⊥) → ((line : LineIn format) (left : List ℕ) → NextIn format text line left → ⊥) → IsFaultAfter network format lines text kind
  rule : (line : LineIn format) (left : List ℕ) (node : Node) → NextIn format text line left → StandsNext network format lines node → BreaksFirst network (cuts_named format lines) node (meaning_in format (cuts_named format lines) line) kind → IsFaultAfter network format lines text kind

-- ---- the first fault

-- Lines are counted from 1. Either the text doesn't begin with the first line of a log of either format. Or some right lines
-- of a format follow that one, and what comes after them is wrong.
pub data IsFirstFault (network : NetworkOf) (text : List ℕ) (fault : LogFault) : Type 0 where
  headless : fault.line ≡ 1 → fault.kind ≡ Form → ((format : LogFormat) (left : List ℕ) → BeginsIn format text [] left → ⊥) → IsFirstFault network text fault
  later : (format : LogFormat) (lines : List (LineIn format)) (left : List ℕ) → BeginsIn format text lines left → LogBegins network format lines → fault.line ≡ length lines + 2 → IsFaultAfter network format lines left fault.kind → IsFirstFault network text fault
