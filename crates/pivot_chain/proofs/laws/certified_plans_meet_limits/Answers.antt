use Rattle.pivot_chain.proofs.Verdicts.{certified_meets}
use Rattle.pivot_chain.proofs.laws.certified_plans_meet_limits.Goals as goal

pub returns : goal.returns
returns c = certified_meets
