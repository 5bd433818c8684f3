use Rattle.std.specs.Prelude.{◌≡◌, ℕ, ◌<◌, ◌≤◌, ◌^◌, pos, [], ◌∷◌, ◌++◌, All, Any, List, length, map}
use Rattle.whole_algebra.specs.Matrices.{at}
use Rattle.geo_model.specs.Network.{NetworkOf}
use Rattle.geo_model.specs.Row.{IsNarrow}
use Rattle.geo_model.specs.declared.plan.Node.{Node}
use Rattle.cut_pool.specs.Cut.{CutOf, IsCutOf}
use Rattle.cut_pool.specs.Pool.{IsPool}
use Rattle.dual_ascent.specs.declared.dual.Dual.{Dual as AscentDual}
use Rattle.geo_model.specs.Limit.{LimitOf}
use Rattle.bound_log.specs.CutText.{CutTextOf}
use Rattle.bound_log.specs.DualText.{texts_of_shares}
use Rattle.bound_log.specs.LogTree.{IsBrokenBy}
use Rattle.bound_log.specs.declared.log_leaf.LogLeaf.TheVariants as leaf
use Rattle.bound_log.specs.declared.log_line.LogLine.{LogLine}
use Rattle.bound_log.specs.declared.log_line.LogLine.TheVariants as line
use Rattle.idle_splits.specs.Idle.{IsLoadedAt}
use Rattle.idle_splits.specs.Tests.{IdleTestOf, IsTestOf}
use Rattle.idle_splits.specs.UnitCuts.{unit_move}
use Rattle.idle_splits.specs.declared.unit_share.UnitShare.{UnitShare}
use Rattle.branch_bound.specs.Naming.{IsNaming, text_at}
use Rattle.branch_bound.specs.declared.node_line.NodeLine.{NodeLine}
use Rattle.branch_bound.specs.declared.node_line.NodeLine.TheVariants.{Split, Cost, Pivot, Cut, UnitDual, Dual}

-- The cuts of a search, and the lines that it writes. This project's own.

-- the cuts that a search tries, the test by which it looks for idle splits, and the cuts that its log has named, by their
-- numbers and in the order of their names
pub record SearchCuts : Type 0 where
  pub pool : List CutOf
  pub idle : IdleTestOf
  pub names : List ℕ

-- a cut is the one of its limit and of its displacement, which has an entry for each unknown of the network
pub record IsCutFor (network : NetworkOf) (cut : CutOf) : Type 0 where
  pub in_range : cut.limit < length network.limits
  pub places : length cut.x ≡ length network.unknowns
  pub narrow : IsNarrow (at cut.x)
  pub exact : IsCutOf network cut.limit cut.x cut

-- each of a pool's cuts is
abbrev pub ArePoolFor : NetworkOf → List CutOf → Type 0
ArePoolFor network pool = All (IsCutFor network) pool

-- a pool has the cut of a limit and of the displacement by 1 in an unknown
abbrev pub HasUnitAt : NetworkOf → List CutOf → ℕ → ℕ → Type 0
HasUnitAt network pool number unknown = Any (λ cut. (cut.limit ≡ number) × (cut.x ≡ unit_move (length network.unknowns) unknown)) pool

-- a pool has the cuts of the network's axis and height limits and of the displacements by 1 in one of the unknowns below a number
-- that load them, at most one for each of these unknowns
pub record HasPoints (network : NetworkOf) (pool : List CutOf) (size : ℕ) : Type 0 where
  pub each : ArePoolFor network pool
  pub points : (number unknown : ℕ) (limit : LimitOf) → unknown < size → IsLoadedAt network number unknown limit → HasUnitAt network pool number unknown
  pub few : length pool ≤ size

-- a pool that a search begins with: its cuts are the network's, the cut of each axis or height limit and of each displacement by
-- 1 in one unknown that loads it is there, and there is a name for each
pub record IsSearchPool (network : NetworkOf) (pool : List CutOf) : Type 0 where
  pub each : ArePoolFor network pool
  pub points : (number unknown : ℕ) (limit : LimitOf) → IsLoadedAt network number unknown limit → HasUnitAt network pool number unknown
  pub few : length pool ≤ 65536

-- the cuts of a search are those of a network, no two the same, and none is named twice
pub record AreCutsFor (network : NetworkOf) (cuts : SearchCuts) : Type 0 where
  pub pool : IsSearchPool network cuts.pool
  pub distinct : IsPool cuts.pool
  pub idle : IsTestOf network cuts.idle
  pub naming : IsNaming cuts.pool cuts.names

-- a pool got further cuts of the network, at its end, and nothing else changed
pub record GotCuts (network : NetworkOf) (before now : SearchCuts) : Type 0 where
  pub more : List CutOf
  pub pool : now.pool ≡ before.pool ++ more
  pub idle : now.idle ≡ before.idle
  pub names : now.names ≡ before.names
  pub cuts : AreCutsFor network now

-- the cuts that the log has named, as its lines spell them
abbrev pub named_cuts : SearchCuts → List CutTextOf
named_cuts cuts = map (text_at cuts.pool) cuts.names

-- a share of a unit cut as a line spells it
abbrev pub unit_text : UnitShare → ℕ × CutTextOf
unit_text share = (share.y, record { limit = share.limit; pairs = (share.unknown, pos 1) ∷ [] })

-- what the line of a node says in a log, where its cut is one of the pool
abbrev pub log_line_of : List CutOf → NodeLine → LogLine
log_line_of pool (Split candidate) = line.Split candidate
log_line_of pool Cost = line.Leaf leaf.Cost
log_line_of pool (Pivot limit) = line.Leaf (leaf.Pivot limit)
log_line_of pool (Cut number) = line.Leaf (leaf.Cut (text_at pool number))
log_line_of pool (UnitDual share) = line.Leaf (leaf.Dual share.d (unit_text share ∷ []))
log_line_of pool (Dual dual) = line.Leaf (leaf.Dual dual.d (texts_of_shares pool dual.shares.items))

-- a share of a unit cut can be written: the pool has its cut, and its numbers are in their ranges
pub record IsUnitWritable (network : NetworkOf) (pool : List CutOf) (share : UnitShare) : Type 0 where
  pub inside : share.unknown < length network.unknowns
  pub there : HasUnitAt network pool share.limit share.unknown
  pub divisor : share.d ≤ 2 ^ 44
  pub multiplier : share.y ≤ 2 ^ 44

-- a dual bound can be written: its shares are of cuts of the pool, and its numbers are in their ranges
pub record IsDualWritable (pool : List CutOf) (dual : AscentDual) : Type 0 where
  pub divisor : dual.d ≤ 2 ^ 44
  pub few : length dual.shares.items ≤ 64
  pub each : All (λ share. (share.y ≤ 2 ^ 44) × (share.cut < length pool)) dual.shares.items

-- the line of a node can be written: it names no cut but those of the pool, and its numbers are in their ranges
abbrev pub IsWritable : NetworkOf → List CutOf → NodeLine → Type 0
IsWritable network pool (Split candidate) = Unit {0}
IsWritable network pool Cost = Unit {0}
IsWritable network pool (Pivot limit) = Unit {0}
IsWritable network pool (Cut number) = number < length pool
IsWritable network pool (UnitDual share) = IsUnitWritable network pool share
IsWritable network pool (Dual dual) = IsDualWritable pool dual

-- all plans of a node break the cut of this number
pub record IsBrokenCut (network : NetworkOf) (node : Node) (cuts : SearchCuts) (number : ℕ) : Type 0 where
  pub in_range : number < length cuts.pool
  pub broken : IsBrokenBy network node (text_at cuts.pool number)
