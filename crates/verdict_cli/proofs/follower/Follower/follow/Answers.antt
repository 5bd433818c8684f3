use Rattle.std.proofs.Common.{◌≡◌, ◌<◌, length, ◌∙◌, sym, ap, arith}
use Rattle.factor_stack.proofs.Changes.{plan_long}
use Rattle.pivot_chain.proofs.Plans.{same_plan}
use Rattle.verdict_cli.proofs.Follows.{brought_more}
use Rattle.verdict_cli.proofs.follower.Follower.follow.Goals as goal

pub loop-i-preserved : goal.loop-i-preserved
loop-i-preserved c =
    let count : length c.candidates.result.now ≡ length c.args.network.now.candidates = ap length c.candidates.ensures.value in
    let lt = c.loop-i-test.true in
    let long = plan_long c.args.network.now c.loop-i.self.stack c.loop-i.invariant.made in
    record {
      made = c.in_ok-choose.ensures.made;
      limit = c.in_ok-choose.ensures.limit ∙ c.loop-i.invariant.limit;
      done = brought_more c.loop-i.self.stack.now.plan c.choose.new.self.stack.now.plan c.args.plan.now c.loop-i.i c.has.result (omega arith) c.in_ok-choose.ensures.plan c.has.ensures c.loop-i.invariant.done;
    }

pub returns-clause-plan : goal.returns-clause-plan
returns-clause-plan c =
    let count : length c.candidates.result.now ≡ length c.args.network.now.candidates = ap length c.candidates.ensures.value in
    let done = c.loop-i-test.false in
    let long = plan_long c.args.network.now c.loop-i.self.stack c.loop-i.invariant.made in
    same_plan c.loop-i.self.stack.now.plan c.args.plan.now (long ∙ sym c.requires.plan) (λ j lt. c.loop-i.invariant.done j (omega arith))
