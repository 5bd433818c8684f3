use Rattle.pivot_chain.proofs.Verdicts.{refuted_fails}
use Rattle.pivot_chain.proofs.laws.refuted_plans_fail.Goals as goal

pub returns : goal.returns
returns c = refuted_fails
