-- What the replay keeps: the open nodes after lines, the next one first, and the bound of the
-- leaves so far. This project's own; it serves the proof of the replay, and no public clause cites
-- it. The first fault is defined without it.
use Rattle.std.specs.Prelude.{◌≡◌, List, [], ◌∷◌, ◌++◌}
use Rattle.geo_model.specs.Network.{NetworkOf}
use Rattle.geo_model.specs.declared.answer.Counts.{Counts}
use Rattle.geo_model.specs.declared.plan.Node.{Node}
use Rattle.bound_log.specs.declared.bound.Bound.{Bound}
use Rattle.bound_log.specs.declared.bound.Bound.TheVariants.{NoPlan}
use Rattle.bound_log.specs.declared.log_format.LogFormat.{LogFormat}
use Rattle.bound_log.specs.Bound.{lesser}
use Rattle.bound_log.specs.Counted.{counts_of}
use Rattle.bound_log.specs.CutText.{CutTextOf}
use Rattle.bound_log.specs.Formats.{LineIn}
use Rattle.bound_log.specs.declared.log_line.LogLine.{LogLine}
use Rattle.bound_log.specs.declared.log_line.LogLine.TheVariants.{Split, Leaf}
use Rattle.bound_log.specs.LogTree.{root_of, with_chosen, without_chosen}
pub use Rattle.bound_log.specs.LogTree.{line_bound}
use Rattle.bound_log.specs.Meanings.{Meaning, naming, standing, lacking, meaning_in, named_in}
use Rattle.bound_log.specs.Rules.{IsAllowedLine}
use Rattle.log_check.specs.FirstFault.{KeepsRules}

-- the nodes that a line opens in place of its own
abbrev pub opened : Node → LogLine → List Node
opened node (Split candidate) = with_chosen node candidate ∷ without_chosen node candidate ∷ []
opened node (Leaf end) = []

-- .. what a line says opens: a name leaves its node open
abbrev pub opened_by : Node → Meaning → List Node
opened_by node (naming cut) = node ∷ []
opened_by node (standing line) = opened node line
opened_by node lacking = []

-- from these open nodes the lines of a tree lead to those: each line is allowed at the first open node, and
-- takes its place
abbrev pub LeadsTo : NetworkOf → List Node → List LogLine → List Node → Type 0
LeadsTo network nodes [] final = nodes ≡ final
LeadsTo network [] (line ∷ lines) final = ⊥
LeadsTo network (node ∷ nodes) (line ∷ lines) final =
    IsAllowedLine network node line × LeadsTo network (opened node line ++ nodes) lines final

-- from these open nodes, with these cuts named, the lines of a log lead to those: each line keeps its rules at the first open
-- node
abbrev pub GoesTo : NetworkOf → (format : LogFormat) → List CutTextOf → List Node → List (LineIn format) → List Node → Type 0
GoesTo network format cuts nodes [] final = nodes ≡ final
GoesTo network format cuts [] (line ∷ lines) final = ⊥
GoesTo network format cuts (node ∷ nodes) (line ∷ lines) final =
    KeepsRules network cuts node (meaning_in format cuts line) ×
    GoesTo network format (cuts ++ named_in format line) (opened_by node (meaning_in format cuts line) ++ nodes) lines final

-- the least bound of the lines that are taken from these open nodes
abbrev pub bound_along : NetworkOf → List Node → List LogLine → Bound
bound_along network nodes [] = NoPlan
bound_along network [] (line ∷ lines) = NoPlan
bound_along network (node ∷ nodes) (line ∷ lines) =
    lesser (line_bound network node line) (bound_along network (opened node line ++ nodes) lines)

-- after these lines of a tree these nodes are open, and this is the least bound so far, with the
-- lines counted
pub record StandsAt (network : NetworkOf) (lines : List LogLine) (nodes : List Node) (bound : Bound) (counts : Counts) : Type 0 where
  pub leads : LeadsTo network (root_of network ∷ []) lines nodes
  pub least : bound ≡ bound_along network (root_of network ∷ []) lines
  pub counted : counts ≡ counts_of lines
