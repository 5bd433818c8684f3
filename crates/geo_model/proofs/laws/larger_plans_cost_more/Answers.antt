use Rattle.geo_model.proofs.PriceLemmas.{plan_price-grows}
use Rattle.geo_model.proofs.laws.larger_plans_cost_more.Goals as goal

pub returns : goal.returns
returns c = plan_price-grows
