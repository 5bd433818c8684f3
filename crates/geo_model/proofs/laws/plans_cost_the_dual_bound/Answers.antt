use Rattle.geo_model.proofs.DualLemmas.{dual_bound-below}
use Rattle.geo_model.proofs.laws.plans_cost_the_dual_bound.Goals as goal

pub returns : goal.returns
returns c = dual_bound-below
