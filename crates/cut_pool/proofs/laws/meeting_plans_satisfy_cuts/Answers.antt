use Rattle.cut_pool.proofs.Covers.{meeting_plan-satisfies}
use Rattle.cut_pool.proofs.laws.meeting_plans_satisfy_cuts.Goals as goal

pub returns : goal.returns
returns c = meeting_plan-satisfies
