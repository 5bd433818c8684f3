use Rattle.geo_model.specs.Prices.{price_of}
use Rattle.bound_log.specs.declared.bound.Bound.TheVariants.{NoPlan}
use Rattle.geoplan.specs.Outcomes.{priced}
use Rattle.geoplan.proofs.CheckLemmas.{checks_with}
use Rattle.geoplan.proofs.laws.what_plan_writes_check_accepts.Goals as goal

pub returns-clause-plan : goal.returns-clause-plan
returns-clause-plan c = λ words sources tables before now text is are found after told.
    checks_with words sources tables (priced (price_of tables.network found.plan) found.counts) before now is are found.leaves after told

pub returns-clause-none : goal.returns-clause-none
returns-clause-none c = λ words sources tables before now text is are found after told.
    checks_with words sources tables (record { bound = NoPlan; counts = found.counts }) before now is are found.leaves after told

pub returns-clause-undecided : goal.returns-clause-undecided
returns-clause-undecided c = λ words sources tables before now text is are left after told.
    checks_with words sources tables (priced (price_of tables.network left.plan) left.counts) before now is are left.leaves after told
