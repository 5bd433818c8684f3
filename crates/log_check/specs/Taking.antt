-- What a line does to what the replay keeps, and how it can stop it. This project's own; it serves
-- the proof of the replay, and no public clause cites it.
use Rattle.std.specs.Prelude.{◌≡◌, ℕ, ◌<◌, Bool, true, List, [], ◌∷◌, ◌++◌}
pub use Rattle.geo_base.specs.Counter.{next_count}
use Rattle.geo_model.specs.Network.{NetworkOf}
use Rattle.geo_model.specs.declared.plan.Node.{Node}
use Rattle.bound_log.specs.declared.bound.Bound.{Bound}
use Rattle.bound_log.specs.declared.log_format.LogFormat.{LogFormat}
use Rattle.bound_log.specs.declared.log_kind.LogKind.{LogKind}
use Rattle.bound_log.specs.declared.log_kind.LogKind.TheVariants.{Extra, Form}
use Rattle.bound_log.specs.declared.log_line.LogLine.{LogLine}
use Rattle.bound_log.specs.Bound.{lesser}
use Rattle.bound_log.specs.Counted.{counts_with}
use Rattle.bound_log.specs.CutText.{CutTextOf}
use Rattle.bound_log.specs.Formats.{IsLineIn, LineIn, head_body_in}
use Rattle.bound_log.specs.Lines.{kind_of}
use Rattle.bound_log.specs.Meanings.{Meaning, naming, standing, lacking, meaning_in}
use Rattle.log_check.specs.declared.progress.Progress.{Progress}
use Rattle.log_check.specs.FirstFault.{BreaksFirst, KeepsRules}
use Rattle.log_check.specs.Running.{opened, line_bound}

-- ---- a line at the next node

-- a line with this bound was taken at the next node, with these nodes after it
pub record Takes (node : Node) (rest : List Node) (line : LogLine) (bound : Bound) (before now : Progress) : Type 0 where
  pub stack : now.stack ≡ record { candidates = before.stack.candidates; nodes = opened node line ++ rest }
  pub least : now.bound ≡ lesser before.bound bound
  pub counted : now.counts ≡ counts_with before.counts (kind_of line ∷ [])
  pub numbered : now.lines ≡ before.lines
  pub formed : now.format ≡ before.format
  pub named : now.cuts ≡ before.cuts

-- the next node was closed with this bound, and nothing was counted
pub record EndsAt (rest : List Node) (bound : Bound) (before now : Progress) : Type 0 where
  pub stack : now.stack ≡ record { candidates = before.stack.candidates; nodes = rest }
  pub least : now.bound ≡ lesser before.bound bound
  pub counted : now.counts ≡ before.counts
  pub numbered : now.lines ≡ before.lines
  pub formed : now.format ≡ before.format
  pub named : now.cuts ≡ before.cuts

-- a cut was named
pub record Names (cut : CutTextOf) (before now : Progress) : Type 0 where
  pub stack : now.stack ≡ before.stack
  pub least : now.bound ≡ before.bound
  pub counted : now.counts ≡ before.counts
  pub numbered : now.lines ≡ before.lines
  pub formed : now.format ≡ before.format
  pub named : now.cuts ≡ before.cuts ++ cut ∷ []

-- what a line says was done at the next node
abbrev pub Does : NetworkOf → Node → List Node → Meaning → Progress → Progress → Type 0
Does network node rest (naming cut) before now = Names cut before now
Does network node rest (standing line) before now = Takes node rest line (line_bound network node line) before now
Does network node rest lacking before now = ⊥

-- what a line says keeps its rules at the next node, and was done there
pub record TakesSaid (network : NetworkOf) (said : Meaning) (before now : Progress) : Type 0 where
  pub node : Node
  pub rest : List Node
  pub top : before.stack.nodes ≡ node ∷ rest
  pub keeps : KeepsRules network before.cuts node said
  pub does : Does network node rest said before now

-- the text is that of a line of the format's grammar, which was taken
pub record TakesBody (network : NetworkOf) (format : LogFormat) (text : List ℕ) (before now : Progress) : Type 0 where
  pub line : LineIn format
  pub spelled : IsLineIn format text line
  pub said : TakesSaid network (meaning_in format before.cuts line) before now

-- .. with its LF
pub record TakesText (network : NetworkOf) (format : LogFormat) (text : List ℕ) (ended : Bool) (before now : Progress) : Type 0 where
  pub with_end : ended ≡ true
  pub body : TakesBody network format text before now

-- what a line says breaks a rule at the next node
pub record StopsSaid (network : NetworkOf) (cuts : List CutTextOf) (nodes : List Node) (said : Meaning) (kind : LogKind) : Type 0 where
  pub node : Node
  pub rest : List Node
  pub top : nodes ≡ node ∷ rest
  pub broken : BreaksFirst network cuts node said kind

-- why the text of a line stops the replay at the next node
pub data StopsBody (network : NetworkOf) (format : LogFormat) (cuts : List CutTextOf) (nodes : List Node) (text : List ℕ) (kind : LogKind) : Type 0 where
  no_words : kind ≡ Form → ((line : LineIn format) → IsLineIn format text line → ⊥) → StopsBody network format cuts nodes text kind
  no_rule : (line : LineIn format) → IsLineIn format text line → StopsSaid network cuts nodes (meaning_in format cuts line) kind → StopsBody network format cuts nodes text kind

-- why the text of a line stops the replay where these nodes are open
pub data Stops (network : NetworkOf) (format : LogFormat) (cuts : List CutTextOf) (nodes : List Node) (text : List ℕ) (ended : Bool) (kind : LogKind) : Type 0 where
  no_node : kind ≡ Extra → nodes ≡ [] → Stops network format cuts nodes text ended kind
  no_end : kind ≡ Form → (nodes ≡ [] → ⊥) → (ended ≡ true → ⊥) → Stops network format cuts nodes text ended kind
  no_body : (nodes ≡ [] → ⊥) → ended ≡ true → StopsBody network format cuts nodes text kind → Stops network format cuts nodes text ended kind

-- ---- each line

-- the first line of a log was taken
pub record TakesHead (text : List ℕ) (ended : Bool) (before now : Progress) : Type 0 where
  pub first : before.lines ≡ 0
  pub with_end : ended ≡ true
  pub spelled : text ≡ head_body_in now.format
  pub stack : now.stack ≡ before.stack
  pub bound : now.bound ≡ before.bound
  pub counts : now.counts ≡ before.counts
  pub cuts : now.cuts ≡ before.cuts
  pub numbered : now.lines ≡ 1

-- a line was taken: the first one, or one at the next node
pub data TakesLine (network : NetworkOf) (text : List ℕ) (ended : Bool) (before now : Progress) : Type 0 where
  at_head : TakesHead text ended before now → TakesLine network text ended before now
  at_node : (middle : Progress) → 0 < before.lines → TakesText network before.format text ended before middle → now ≡ record middle { lines = next_count middle.lines } → TakesLine network text ended before now

-- why a line stops the replay: it should be the first one of a log, or it stops it at the next node
pub data StopsLine (network : NetworkOf) (progress : Progress) (text : List ℕ) (ended : Bool) (kind : LogKind) : Type 0 where
  no_head : progress.lines ≡ 0 → kind ≡ Form → (ended ≡ true → (format : LogFormat) → text ≡ head_body_in format → ⊥) → StopsLine network progress text ended kind
  past_head : 0 < progress.lines → Stops network progress.format progress.cuts progress.stack.nodes text ended kind → StopsLine network progress text ended kind
