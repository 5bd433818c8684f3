use Rattle.std.proofs.Common.{◌<◌, length, get_or, subst, sym, arith}
use Rattle.factor_stack.specs.Stack.{StackOf}
use Rattle.trial.specs.Stacks.{CanChange, IsChanged}
use Rattle.trial.proofs.Zips.{all_at, written_more}
use Rattle.trial.proofs.stacks.change_counted.Goals as goal

pub change-requires-clause-made : goal.change-requires-clause-made
change-requires-clause-made g c =
    let inside : c.loop-stack.stack-index < length c.args.stacks.now = omega arith in
    (all_at (CanChange c.args.network.now c.args.i c.args.chosen) c.args.stacks.now c.loop-stack.stacks c.loop-stack.stack-index c.stack-item.result c.requires.each inside c.loop-stack.invariant.others).made

pub change-requires-clause-differs : goal.change-requires-clause-differs
change-requires-clause-differs g c =
    let inside : c.loop-stack.stack-index < length c.args.stacks.now = omega arith in
    (all_at (CanChange c.args.network.now c.args.i c.args.chosen) c.args.stacks.now c.loop-stack.stacks c.loop-stack.stack-index c.stack-item.result c.requires.each inside c.loop-stack.invariant.others).differs

pub change-requires-clause-depth : goal.change-requires-clause-depth
change-requires-clause-depth g c =
    let inside : c.loop-stack.stack-index < length c.args.stacks.now = omega arith in
    (all_at (CanChange c.args.network.now c.args.i c.args.chosen) c.args.stacks.now c.loop-stack.stacks c.loop-stack.stack-index c.stack-item.result c.requires.each inside c.loop-stack.invariant.others).depth

pub loop-stack-preserved : goal.loop-stack-preserved
loop-stack-preserved g c =
    let R = IsChanged c.args.network.now c.args.i c.args.chosen in
    let inside : c.loop-stack.stack-index < length c.args.stacks.now = omega arith in
    let one : IsChanged c.args.network.now c.args.i c.args.chosen (get_or c.loop-stack.stacks c.loop-stack.stack-index c.stack-item.result) c.change.new.self =
    record { made = c.in_ok-change.ensures.made; limit = c.in_ok-change.ensures.limit; plan = c.in_ok-change.ensures.plan; before = c.in_ok-change.ensures.before } in
    written_more R c.args.stacks.now c.loop-stack.stacks c.loop-stack.stack-index c.stack-item.result c.change.new.self (omega arith) inside c.stack-item.is
    (subst (λ (s : StackOf). IsChanged c.args.network.now c.args.i c.args.chosen s c.change.new.self) (sym c.stack-item.is) one) c.loop-stack.invariant
