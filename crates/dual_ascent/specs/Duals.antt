use Rattle.std.specs.Prelude.{◌≡◌, ℕ, ◌^◌, ◌≤◌, List, All, length, Some, slice_get}
use Rattle.geo_model.specs.Limit.{LimitOf, IsInForce}
use Rattle.geo_model.specs.Network.{NetworkOf}
use Rattle.geo_model.specs.declared.plan.Node.{Node}
use Rattle.cut_pool.specs.Cut.{CutOf}
use Rattle.cut_pool.specs.declared.share.Share.{Share}
use Rattle.dual_ascent.specs.declared.dual.Dual.{Dual}

-- Multipliers for the cuts of a pool, at a node. This project's own.

-- a cut may be named at a node: its limit has no owner, or one that each plan of the node chooses
pub record IsCutNameable (network : NetworkOf) (node : Node) (cut : CutOf) : Type 0 where
  pub limit : LimitOf
  pub named : slice_get network.limits cut.limit ≡ Some limit
  pub in_force : IsInForce limit node.inside

-- the pool has a cut of this number that may be named at the node
pub record IsNamedAt (network : NetworkOf) (node : Node) (pool : List CutOf) (number : ℕ) : Type 0 where
  pub cut : CutOf
  pub among : slice_get pool number ≡ Some cut
  pub allowed : IsCutNameable network node cut

-- a share of a cut of the pool that may be named at the node
pub record IsShareWithin (network : NetworkOf) (node : Node) (pool : List CutOf) (share : Share) : Type 0 where
  pub low : 1 ≤ share.y
  pub high : share.y ≤ 2 ^ 44
  pub named : IsNamedAt network node pool share.cut

-- a divisor, and from one to 64 shares of cuts that may be named at the node
pub record IsDualWithin (network : NetworkOf) (node : Node) (pool : List CutOf) (dual : Dual) : Type 0 where
  pub divisor_low : 1 ≤ dual.d
  pub divisor_high : dual.d ≤ 2 ^ 44
  pub some : 1 ≤ length dual.shares.items
  pub few : length dual.shares.items ≤ 64
  pub each : All (IsShareWithin network node pool) dual.shares.items
