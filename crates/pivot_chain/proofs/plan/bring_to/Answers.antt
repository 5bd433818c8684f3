use Rattle.std.proofs.Common.{◌≡◌, length, ap, arith}
use Rattle.pivot_chain.proofs.Plans.{same_plan}
use Rattle.pivot_chain.proofs.plan.bring_to.Goals as goal

pub returns-clause-plan : goal.returns-clause-plan
returns-clause-plan c =
    let places = c.loop-i.invariant.sum.places in
    let long = c.requires.places in
    let count : length c.candidates.result.now ≡ length c.args.network.now.candidates = ap length c.candidates.ensures.value in
    let done = c.loop-i-test.false in
    same_plan c.loop-i.normal.plan c.args.plan.now (omega arith) (λ j lt. c.loop-i.invariant.done j (omega arith))
