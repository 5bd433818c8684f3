use Rattle.std.proofs.Common.{◌∙◌, sym, arith}
use Rattle.verdict_cli.specs.Answer.{plan_of}
use Rattle.pivot_chain.proofs.Plans.{same_plan}
use Rattle.verdict_cli.proofs.Digits.{plan-places}
use Rattle.verdict_cli.proofs.plan.read_plan.Goals as goal

pub returns-clause-plan : goal.returns-clause-plan
returns-clause-plan c =
    let long = plan-places c.args.m c.args.line.now (sym c.is_plan.ensures ∙ c.if-not-is_plan.false) in
    let places = c.loop-i.invariant.places in
    let done = c.loop-i-test.false in
    same_plan c.loop-i.plan (plan_of c.args.line.now) (places ∙ sym long) (λ j lt. c.loop-i.invariant.done j (omega (arith, lt, done, places)))
