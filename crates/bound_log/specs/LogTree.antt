use Rattle.std.specs.Prelude.{◌≡◌, ℕ, ◌<◌, ◌≤◌, ◌^◌, true, false, List, All, length, map, Some, slice_get, slice_set}
use Rattle.geo_model.specs.Dual.{dual_bound}
use Rattle.geo_model.specs.Limit.{LimitOf, IsInForce}
use Rattle.geo_model.specs.Meeting.{Breaks}
use Rattle.geo_model.specs.Network.{NetworkOf}
use Rattle.geo_model.specs.Nodes.{all_plans}
use Rattle.geo_model.specs.Prices.{PricesOf, plan_price, prices_of}
use Rattle.geo_model.specs.declared.plan.Node.{Node}
use Rattle.geo_model.specs.declared.verdict.Verdict.TheVariants.{Refuted}
use Rattle.pivot_chain.specs.Verdict.{verdict_of}
use Rattle.bound_log.specs.declared.bound.Bound.{Bound}
use Rattle.bound_log.specs.declared.bound.Bound.TheVariants.{NoPlan, AtLeast}
use Rattle.bound_log.specs.Bound.{lesser}
use Rattle.bound_log.specs.CutText.{CutTextOf, displaced_by}
use Rattle.bound_log.specs.DualText.{weighed_text}
use Rattle.bound_log.specs.declared.log_format.LogFormat.{LogFormat}
use Rattle.bound_log.specs.declared.log_leaf.LogLeaf.{LogLeaf}
use Rattle.bound_log.specs.declared.log_leaf.LogLeaf.TheVariants.{Cost, Pivot, Cut, Dual}
use Rattle.bound_log.specs.declared.log_line.LogLine.{LogLine}
use Rattle.bound_log.specs.declared.log_line.LogLine.TheVariants.{Split, Leaf}
use Rattle.bound_log.specs.Meanings.{AreNames}
use Rattle.bound_log.specs.Rules.{IsAllowedLine, is_displacement}
use Rattle.bound_log.specs.SpellsIn.{SpellsIn}
use Rattle.bound_log.specs.Tree.{Tree, fork, tip}

-- Logs of a network, and their bounds. A node stands for all plans that contain its inner plan and lie in its
-- upper one. This project's own.

-- the node of all plans
abbrev pub root_of : NetworkOf → Node
root_of network = all_plans (length network.candidates)

-- the child of a split that chooses the candidate
abbrev pub with_chosen : Node → ℕ → Node
with_chosen node candidate = record { inside = slice_set node.inside candidate true; upper = node.upper }

-- the child of a split that leaves the candidate out
abbrev pub without_chosen : Node → ℕ → Node
without_chosen node candidate = record { inside = node.inside; upper = slice_set node.upper candidate false }

-- ---- what a line wants of its node

-- what a split wants of its candidate, in one record
pub record IsOpenAt (network : NetworkOf) (node : Node) (candidate : ℕ) : Type 0 where
  pub in_range : candidate < length network.candidates
  pub in_upper : slice_get node.upper candidate ≡ Some true
  pub not_inside : slice_get node.inside candidate ≡ Some false

-- what a pivot line wants of its limit, in one record: it refutes the node
pub record IsNodeRefutedBy (network : NetworkOf) (node : Node) (number : ℕ) : Type 0 where
  pub limit : LimitOf
  pub named : slice_get network.limits number ≡ Some limit
  pub owned : IsInForce limit node.inside
  pub refuted : verdict_of network node.upper limit ≡ Refuted

-- what a cut line wants of its displacement, in one record: it breaks the limit for all plans of the node
pub record IsBrokenBy (network : NetworkOf) (node : Node) (cut : CutTextOf) : Type 0 where
  pub limit : LimitOf
  pub named : slice_get network.limits cut.limit ≡ Some limit
  pub displacement : is_displacement (length network.unknowns) cut.pairs ≡ true
  pub owned : IsInForce limit node.inside
  pub breaks : Breaks network node.upper limit (displaced_by cut.pairs)

-- a divisor or a multiplier is from 1 to 2^44
pub record IsWeight (weight : ℕ) : Type 0 where
  pub low : 1 ≤ weight
  pub high : weight ≤ 2 ^ 44

-- what a dual line wants of a share, in one record: its limit is in force for all plans of the node
pub record IsLineShareAt (network : NetworkOf) (node : Node) (share : ℕ × CutTextOf) : Type 0 where
  pub multiplier : IsWeight share.0
  pub limit : LimitOf
  pub named : slice_get network.limits share.1.limit ≡ Some limit
  pub displacement : is_displacement (length network.unknowns) share.1.pairs ≡ true
  pub owned : IsInForce limit node.inside

-- what a dual line wants of its divisor and its shares, in one record
pub record IsDualLineAt (network : NetworkOf) (node : Node) (divisor : ℕ) (shares : List (ℕ × CutTextOf)) : Type 0 where
  pub divides : IsWeight divisor
  pub few : length shares ≤ 64
  pub each : All (IsLineShareAt network node) shares

-- ---- trees

-- a tree is allowed at a node: each of its lines is allowed at its own node
abbrev pub IsAllowed : NetworkOf → Node → Tree → Type 0
IsAllowed network node (tip end) = IsAllowedLine network node (Leaf end)
IsAllowed network node (fork candidate with_it without_it) =
    IsAllowedLine network node (Split candidate) ×
    IsAllowed network (with_chosen node candidate) with_it ×
    IsAllowed network (without_chosen node candidate) without_it

-- the bound of a leaf at a node under these prices: the price of the inner plan, a dual bound, or that no plan is left
unfoldable pub leaf_bound_for : PricesOf → NetworkOf → Node → LogLeaf → Bound
leaf_bound_for prices network node Cost = AtLeast (plan_price prices node.inside)
leaf_bound_for prices network node (Pivot limit) = NoPlan
leaf_bound_for prices network node (Cut cut) = NoPlan
leaf_bound_for prices network node (Dual divisor shares) = AtLeast (dual_bound prices divisor (map (weighed_text network) shares) node)

-- the bound of a tree at a node under these prices: the least bound of its leaves
abbrev pub bound_for : PricesOf → NetworkOf → Node → Tree → Bound
bound_for prices network node (tip end) = leaf_bound_for prices network node end
bound_for prices network node (fork candidate with_it without_it) =
    lesser (bound_for prices network (with_chosen node candidate) with_it)
    (bound_for prices network (without_chosen node candidate) without_it)

-- the bounds of a leaf and of a tree under the network's own prices
abbrev pub leaf_bound : NetworkOf → Node → LogLeaf → Bound
leaf_bound network node end = leaf_bound_for (prices_of network) network node end

-- the bound of a line: that of a leaf; a split has none
abbrev pub line_bound : NetworkOf → Node → LogLine → Bound
line_bound network node (Split candidate) = NoPlan
line_bound network node (Leaf end) = leaf_bound network node end

abbrev pub bound_at : NetworkOf → Node → Tree → Bound
bound_at network node tree = bound_for (prices_of network) network node tree

-- a text is a log of the network, in either format, with this tree: the cuts that it names are in their ranges, and each line
-- of the tree is allowed at its node
pub record IsLog (network : NetworkOf) (text : List ℕ) (tree : Tree) : Type 0 where
  pub format : LogFormat
  pub cuts : List CutTextOf
  pub spells : SpellsIn format text cuts tree
  pub named : AreNames network cuts
  pub allowed : IsAllowed network (root_of network) tree

-- a text is a log of the network, and this is its bound under these prices
pub record HasBoundFor (prices : PricesOf) (network : NetworkOf) (text : List ℕ) (bound : Bound) : Type 0 where
  pub tree : Tree
  pub log : IsLog network text tree
  pub least : bound ≡ bound_for prices network (root_of network) tree

-- a text is a log of the network, and this is its bound
abbrev pub HasBound : NetworkOf → List ℕ → Bound → Type 0
HasBound network text bound = HasBoundFor (prices_of network) network text bound
