use Rattle.std.proofs.Common.{◌<◌, length, ap, sym, ◌∙◌, arith}
use Rattle.limit_stacks.proofs.Brought.{agree_more, same_by_agree, stack_places}
use Rattle.limit_stacks.proofs.following.bring_counted.Goals as goal

pub loop-i-preserved : goal.loop-i-preserved
loop-i-preserved g c =
    let places = stack_places c.args.network.now c.loop-i.stack c.loop-i.invariant.made in
    let inside : c.loop-i.i < length c.loop-i.stack.now.plan = omega (arith, ap length c.candidates.ensures.value, places) in
    record {
      made = c.in_ok-choose.ensures.made;
      limit = c.in_ok-choose.ensures.limit ∙ c.loop-i.invariant.limit;
      few = omega (arith, c.in_ok-choose.ensures.few);
      agrees = agree_more c.loop-i.stack.now.plan c.choose.new.stack.now.plan c.args.plan.now c.loop-i.i c.has.result c.loop-i.invariant.agrees inside c.in_ok-choose.ensures.plan c.has.ensures;
    }

pub returns-clause-plan : goal.returns-clause-plan
returns-clause-plan g c =
    let places = stack_places c.args.network.now c.loop-i.stack c.loop-i.invariant.made in
    same_by_agree c.loop-i.stack.now.plan c.args.plan.now (places ∙ sym c.requires.plan)
    (λ j below. let inside : j < c.loop-i.i = omega (arith, ap length c.candidates.ensures.value, places) in c.loop-i.invariant.agrees j inside)
