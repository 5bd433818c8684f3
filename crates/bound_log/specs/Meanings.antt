-- What the lines of a log say of its tree, in either format, and which cuts they name. This project's own.
use Rattle.std.specs.Prelude.{◌≡◌, ◌≤◌, ℕ, ltb, ◌&&◌, Bool, true, false, if◌then◌else◌, List, [], ◌∷◌, ◌++◌, All, Option, Some, None, flat_map, get_or, length, map, slice_get}
use Rattle.std.specs.List.{list_all}
use Rattle.geo_model.specs.Network.{NetworkOf}
use Rattle.geo_model.specs.declared.plan.Node.{Node}
use Rattle.bound_log.specs.declared.log_format.LogFormat.{LogFormat}
use Rattle.bound_log.specs.declared.log_format.LogFormat.TheVariants.{First, Second}
use Rattle.bound_log.specs.declared.log_kind.LogKind.TheVariants.{Range}
use Rattle.bound_log.specs.declared.log_leaf.LogLeaf.TheVariants as log_leaf
use Rattle.bound_log.specs.declared.log_line.LogLine.{LogLine}
use Rattle.bound_log.specs.declared.log_line.LogLine.TheVariants as log_line
use Rattle.bound_log.specs.declared.named_line.NamedLine.{NamedLine}
use Rattle.bound_log.specs.declared.named_line.NamedLine.TheVariants.{Split, Cost, Pivot, Named, UseCut, UseDual}
use Rattle.bound_log.specs.CutText.{CutTextOf}
use Rattle.bound_log.specs.Formats.{LineIn}
use Rattle.bound_log.specs.Rules.{LineRule, is_displacement, line_rules}

-- ---- a line where cuts are named

-- the cut of a number, where these are named, one after another from 0 on
abbrev pub cut_named : List CutTextOf → ℕ → CutTextOf
cut_named cuts number = get_or cuts number (record { limit = 0; pairs = [] })

-- the number is that of a cut that is named
abbrev pub is_named : List CutTextOf → ℕ → Bool
is_named cuts number = ltb number (length cuts)

-- the share that a use of a cut stands for
abbrev pub share_used : List CutTextOf → ℕ × ℕ → ℕ × CutTextOf
share_used cuts one = (one.0, cut_named cuts one.1)

-- a use with its cut, where that is named; and a share with its cut
abbrev pub found_use : List CutTextOf → ℕ × ℕ → ℕ × Option CutTextOf
found_use cuts one = (one.0, slice_get cuts one.1)

abbrev pub found_share : ℕ × CutTextOf → ℕ × Option CutTextOf
found_share share = (share.0, Some share.1)

-- What a line of a log says: it names a cut, or it is a line of the tree; or it uses a cut that isn't named.
pub data Meaning : Type 0 where
  naming : CutTextOf → Meaning
  standing : LogLine → Meaning
  lacking : Meaning

-- what a line of format 2 says where these cuts are named: each number of a cut stands for the cut
abbrev pub named_meaning : List CutTextOf → NamedLine → Meaning
named_meaning cuts (Split candidate) = standing (log_line.Split candidate)
named_meaning cuts Cost = standing (log_line.Leaf log_leaf.Cost)
named_meaning cuts (Pivot limit) = standing (log_line.Leaf (log_leaf.Pivot limit))
named_meaning cuts (Named cut) = naming cut
named_meaning cuts (UseCut number) =
    if is_named cuts number then standing (log_line.Leaf (log_leaf.Cut (cut_named cuts number))) else lacking
named_meaning cuts (UseDual divisor uses) =
    if list_all (λ one. is_named cuts one.1) uses
    then standing (log_line.Leaf (log_leaf.Dual divisor (map (share_used cuts) uses))) else lacking

abbrev pub meaning_in : (format : LogFormat) → List CutTextOf → LineIn format → Meaning
meaning_in First cuts line = standing line
meaning_in Second cuts line = named_meaning cuts line

-- ---- lines, one after another

-- the cut that a line names: one, or none
abbrev pub named_by : NamedLine → List CutTextOf
named_by (Split candidate) = []
named_by Cost = []
named_by (Pivot limit) = []
named_by (Named cut) = cut ∷ []
named_by (UseCut number) = []
named_by (UseDual divisor uses) = []

abbrev pub named_in : (format : LogFormat) → LineIn format → List CutTextOf
named_in First line = []
named_in Second line = named_by line

-- the cuts that lines name, in their order
abbrev pub cuts_named : (format : LogFormat) → List (LineIn format) → List CutTextOf
cuts_named format lines = flat_map (named_in format) lines

-- the lines of a tree that one line stands for
abbrev pub nodes_of : Meaning → Option (List LogLine)
nodes_of (naming cut) = Some []
nodes_of (standing line) = Some (line ∷ [])
nodes_of lacking = None

abbrev pub joined_nodes : Option (List LogLine) → Option (List LogLine) → Option (List LogLine)
joined_nodes None later = None
joined_nodes (Some nodes) None = None
joined_nodes (Some nodes) (Some more) = Some (nodes ++ more)

-- the lines of a tree that lines stand for, where these cuts are named before them: those that name no cut, with each
-- number of a cut replaced by the cut; none where one uses a cut that isn't named before it
abbrev pub nodes_in : (format : LogFormat) → List CutTextOf → List (LineIn format) → Option (List LogLine)
nodes_in format cuts [] = Some []
nodes_in format cuts (line ∷ lines) = joined_nodes (nodes_of (meaning_in format cuts line)) (nodes_in format (cuts ++ named_in format line) lines)

-- the last line names a cut
abbrev pub names_last : (format : LogFormat) → List (LineIn format) → Bool
names_last format [] = false
names_last format (line ∷ []) = ltb 0 (length (named_in format line))
names_last format (line ∷ next ∷ lines) = names_last format (next ∷ lines)

-- ---- the rules

-- the limit and the displacement of a cut are in their ranges
abbrev pub is_cut_in_range : NetworkOf → CutTextOf → Bool
is_cut_in_range network cut = ltb cut.limit (length network.limits) && is_displacement (length network.unknowns) cut.pairs

-- after these cuts a further one may be named: they are fewer than 65536, and its numbers are in their ranges
abbrev pub may_name : NetworkOf → List CutTextOf → CutTextOf → Bool
may_name network cuts cut = ltb (length cuts) 65536 && is_cut_in_range network cut

-- the rules of a line at a node: a name and a line of the tree each have their own, and a cut that is used is to be named
abbrev pub meaning_rules : NetworkOf → List CutTextOf → Node → Meaning → List LineRule
meaning_rules network cuts node (naming cut) = record { kept = may_name network cuts cut; kind = Range } ∷ []
meaning_rules network cuts node (standing line) = line_rules network node line
meaning_rules network cuts node lacking = record { kept = false; kind = Range } ∷ []

-- the cuts that a log of the network names: at most 65536, with their numbers in their ranges
pub record AreNames (network : NetworkOf) (cuts : List CutTextOf) : Type 0 where
  pub few : length cuts ≤ 65536
  pub each : All (λ cut. is_cut_in_range network cut ≡ true) cuts
