use Rattle.std.proofs.Common.{◌+◌, ap₂}
use Rattle.geo_model.specs.Prices.{plan_price}
use Rattle.geo_model.proofs.price.cost.Goals as goal

pub returns : goal.returns
unfolding plan_price
returns c = ap₂ (λ s t. s + t) c.candidates_price.ensures.value c.stations_price.ensures.value
