-- Which plans a dual bound of cuts is below. This project's own.
use Rattle.std.specs.Prelude.{◌≡◌, ℕ, ◌≤◌, Bool, List, All, Some, slice_get}
use Rattle.whole_algebra.specs.Matrices.{at}
use Rattle.geo_model.specs.Dual.{dual_bound}
use Rattle.geo_model.specs.Energy.{IsWithin}
use Rattle.geo_model.specs.Limit.{LimitOf, IsInForce}
use Rattle.geo_model.specs.Meeting.{MeetsLimits}
use Rattle.geo_model.specs.Network.{NetworkOf, IsNetwork}
use Rattle.geo_model.specs.Prices.{price_of, prices_of}
use Rattle.geo_model.specs.declared.plan.Node.{Node}
use Rattle.cut_pool.specs.Cut.{CutOf, cover, cover_of}
use Rattle.cut_pool.specs.declared.share.Share.{Share}
use Rattle.dual_bound.specs.Shares.{weighed_covers}

-- A share may be used at a node: its cut is the one of a limit and a displacement, and the limit is in force for each plan of
-- the node.
pub record IsOwned (network : NetworkOf) (node : Node) (cut : CutOf) : Type 0 where
  pub limit : LimitOf
  pub named : slice_get network.limits cut.limit ≡ Some limit
  pub covers : cover cut ≡ cover_of network limit (at cut.x)
  pub in_force : IsInForce limit node.inside

-- each plan of a node that meets the limits costs at least the dual bound of shares that may be used there
abbrev pub MeetingPlansCostTheDualBound : Type 0
MeetingPlansCostTheDualBound =
    (network : NetworkOf) (node : Node) (d : ℕ) (shares : List Share) (pool : List CutOf) (plan : List Bool) → IsNetwork network → 1 ≤ d →
    All (λ share. (cut : CutOf) → slice_get pool share.cut ≡ Some cut → IsOwned network node cut) shares → IsWithin node.inside plan → IsWithin plan node.upper →
    MeetsLimits network plan → dual_bound (prices_of network) d (weighed_covers pool shares) node ≤ price_of network plan
