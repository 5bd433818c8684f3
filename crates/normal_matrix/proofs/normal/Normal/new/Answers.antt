use Rattle.std.proofs.Common.{length, ap, sym, subst}
use Rattle.lent_parts.specs.Triangle.{IsTri}
use Rattle.lent_parts.proofs.Triangles.{length-IsTri}
use Rattle.normal_matrix.proofs.PlanSteps.{IsNormalOf-none}
use Rattle.normal_matrix.proofs.normal.Normal.new.Goals as goal

pub returns-clause-sum : goal.returns-clause-sum
returns-clause-sum c =
    let made = c.in_ok-sums.ensures in
    IsNormalOf-none c.args.network.now c.in_ok-plan.plan c.in_ok-sums.sums (length c.candidates.result.now) (length c.unknowns.result.now) c.in_ok-plan.ensures made.zeros made.shape
    (ap length c.candidates.ensures.value) (ap length c.unknowns.ensures.value)
