use Rattle.std.specs.Prelude.{◌≡◌, ℕ, ◌+◌, ◌*◌, ◌<◌, ◌≤◌, Bool, List, Some, slice_get}
use Rattle.geo_model.specs.Cover.{chosen_sum}
use Rattle.geo_model.specs.Energy.{IsWithin}
use Rattle.geo_model.specs.Network.{NetworkOf}
use Rattle.geo_model.specs.Prices.{price_of}
use Rattle.geo_model.specs.declared.plan.Node.{Node}
use Rattle.cut_pool.specs.Cut.{CutOf}
use Rattle.idle_splits.specs.declared.filling.Filling.{Filling}
use Rattle.idle_splits.specs.declared.unit_cuts.UnitCuts.{UnitCuts}

-- Plans of a node as one cut sees them: for private functions. This project's own.

-- a plan of a node: it has the inner plan, and lies in the upper one
pub record IsPlanOf (node : Node) (plan : List Bool) : Type 0 where
  pub above : IsWithin node.inside plan
  pub below : IsWithin plan node.upper

-- what a plan weighs in a kept cut, and what it costs
pub record IsFilling (network : NetworkOf) (cuts : UnitCuts) (k : ℕ) (plan : List Bool) (filling : Filling) : Type 0 where
  pub weight : (cut : CutOf) → slice_get cuts.pool k ≡ Some cut → filling.weight ≡ chosen_sum cut.coefficients plan
  pub price : filling.price ≡ price_of network plan

-- two plans, each counted so many times, reach as many times a bound, and cost no more than as many
-- times a price
pub record IsMixedBelow (bound earlier : ℕ) (first second : Filling) : Type 0 where
  pub one : ℕ
  pub two : ℕ
  pub some : 0 < one + two
  pub reaches : one * bound + two * bound ≤ one * first.weight + two * second.weight
  pub cheap : one * first.price + two * second.price ≤ one * earlier + two * earlier
