-- Shares of cuts of a pool, as a line may have them. This project's own.
use Rattle.std.specs.Prelude.{◌≡◌, ◌<◌, ◌≤◌, ◌^◌, List, length, Some, slice_get}
use Rattle.whole_algebra.specs.Matrices.{at}
use Rattle.geo_model.specs.Limit.{LimitOf, IsInForce}
use Rattle.geo_model.specs.Network.{NetworkOf}
use Rattle.geo_model.specs.Row.{IsNarrow}
use Rattle.geo_model.specs.declared.plan.Node.{Node}
use Rattle.cut_pool.specs.Cut.{CutOf}
use Rattle.cut_pool.specs.declared.share.Share.{Share}
use Rattle.bound_log.specs.LogTree.{IsWeight}

-- a share whose line can be read again
pub record IsSpelled (pool : List CutOf) (share : Share) : Type 0 where
  pub multiplier : share.y ≤ 2 ^ 44
  pub cut : CutOf
  pub named : slice_get pool share.cut ≡ Some cut
  pub limit : cut.limit < 2 ^ 32
  pub long : length cut.x < 2 ^ 32
  pub narrow : IsNarrow (at cut.x)

-- a share that a line may have at a node: its cut's limit is in force for all plans of the node
pub record IsPoolShareAt (network : NetworkOf) (node : Node) (pool : List CutOf) (share : Share) : Type 0 where
  pub multiplier : IsWeight share.y
  pub cut : CutOf
  pub named : slice_get pool share.cut ≡ Some cut
  pub long : length cut.x ≡ length network.unknowns
  pub narrow : IsNarrow (at cut.x)
  pub limit : LimitOf
  pub limited : slice_get network.limits cut.limit ≡ Some limit
  pub owned : IsInForce limit node.inside
