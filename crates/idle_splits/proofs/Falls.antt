-- Idleness falls as the earlier bound grows.
use Rattle.std.proofs.Common.{ℕ, arith}
use Rattle.geo_model.specs.Network.{NetworkOf}
use Rattle.geo_model.specs.declared.plan.Node.{Node}
use Rattle.bound_log.specs.declared.bound.Bound.{Bound}
use Rattle.bound_log.specs.declared.bound.Bound.TheVariants.{NoPlan, AtLeast}
use Rattle.idle_splits.specs.Idle.{IsAbove, IsNoMore, IsDearByUnit, IsIdle, refuted, dear, dear_by_unit}

IsAbove-falls : (price : ℕ) (lower higher : Bound) → IsNoMore lower higher → IsAbove price higher → IsAbove price lower
IsAbove-falls price lower NoPlan less above = absurd above
IsAbove-falls price NoPlan (AtLeast b) less above = absurd less
IsAbove-falls price (AtLeast a) (AtLeast b) less above = omega arith

IsDearByUnit-falls : (network : NetworkOf) (node : Node) (lower higher : Bound) (number unknown candidate : ℕ) → IsNoMore lower higher
    → IsDearByUnit network node higher number unknown candidate → IsDearByUnit network node lower number unknown candidate
IsDearByUnit-falls network node lower higher number unknown candidate less by = record {
  limit = by.limit;
  loaded = by.loaded;
  dear = record { chosen = by.dear.chosen; priced = by.dear.priced; weighs = by.dear.weighs; above = IsAbove-falls _ lower higher less by.dear.above };
}

pub IsIdle-falls : (network : NetworkOf) (node : Node) (lower higher : Bound) → IsNoMore lower higher → IsIdle network node higher → IsIdle network node lower
IsIdle-falls network node lower higher less (refuted number by) = refuted number by
IsIdle-falls network node lower higher less (dear above) = dear (IsAbove-falls _ lower higher less above)
IsIdle-falls network node lower higher less (dear_by_unit number unknown candidate by) =
    dear_by_unit number unknown candidate (IsDearByUnit-falls network node lower higher number unknown candidate less by)
