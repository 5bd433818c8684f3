-- What it means that a checker of logs is sound. This project's own.
use Rattle.std.specs.Prelude.{◌≡◌, ℕ, List, Bool, length}
use Rattle.geo_model.specs.Meeting.{MeetsLimits}
use Rattle.geo_model.specs.Network.{NetworkOf, IsNetwork}
use Rattle.geo_model.specs.Prices.{PricesOf, HasStationPrices, plan_price, prices_of}
use Rattle.bound_log.specs.declared.bound.Bound.{Bound}
use Rattle.bound_log.specs.Bound.{IsAtMost}
use Rattle.bound_log.specs.LogTree.{HasBoundFor}

-- every plan that meets the limits costs at least the bound under these prices, and where that is `NoPlan` none meets them
abbrev pub IsLowerBoundFor : PricesOf → NetworkOf → Bound → Type 0
IsLowerBoundFor prices network bound =
    (plan : List Bool) → length plan ≡ length network.candidates → MeetsLimits network plan →
    IsAtMost bound (plan_price prices plan)

-- every plan that meets the limits costs at least the bound, and where that is `NoPlan` none meets them
abbrev pub IsLowerBound : NetworkOf → Bound → Type 0
IsLowerBound network bound = IsLowerBoundFor (prices_of network) network bound

-- The checker is sound: the bound of any text whatever is a lower bound for every plan that meets the limits, under any
-- prices, those of the network among them. It speaks of texts and not of how they came to be.
abbrev pub CheckerIsSound : Type 0
CheckerIsSound =
    (prices : PricesOf) (network : NetworkOf) (text : List ℕ) (bound : Bound) → HasStationPrices prices → IsNetwork network →
    HasBoundFor prices network text bound → IsLowerBoundFor prices network bound
