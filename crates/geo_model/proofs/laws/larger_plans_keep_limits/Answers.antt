use Rattle.geo_model.proofs.EnergyLemmas.{MeetsLimit-grows}
use Rattle.geo_model.proofs.laws.larger_plans_keep_limits.Goals as goal

pub returns : goal.returns
returns c = λ network limit small large bounds kept within meets.
    MeetsLimit-grows network limit small large bounds.each_candidate kept.bounded.alpha_low within meets
