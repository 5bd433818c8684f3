use Rattle.dual_bound.proofs.Bounds.{meeting_plans-cost}
use Rattle.dual_bound.proofs.laws.meeting_plans_cost_the_dual_bound.Goals as goal

pub returns : goal.returns
returns c = meeting_plans-cost
