use Rattle.std.proofs.Common.{◌<◌, length, get_or, subst, sym, arith}
use Rattle.factor_stack.specs.Stack.{StackOf}
use Rattle.trial.specs.Stacks.{IsUndone}
use Rattle.trial.proofs.Zips.{all_at, written_more}
use Rattle.trial.proofs.stacks.undo_stacks.Goals as goal

pub undo-requires : goal.undo-requires
undo-requires c =
    let inside : c.loop-stack.stack-index < length c.args.stacks.now = omega arith in
    all_at (λ (stack : StackOf). 0 < length stack.before) c.args.stacks.now c.loop-stack.stacks c.loop-stack.stack-index c.stack-item.result c.requires inside c.loop-stack.invariant.others

pub loop-stack-preserved : goal.loop-stack-preserved
loop-stack-preserved c =
    let inside : c.loop-stack.stack-index < length c.args.stacks.now = omega arith in
    let one : IsUndone (get_or c.loop-stack.stacks c.loop-stack.stack-index c.stack-item.result) c.undo.new.self =
    record { made = c.undo.ensures.made; limit = c.undo.ensures.limit; before = c.undo.ensures.before } in
    written_more IsUndone c.args.stacks.now c.loop-stack.stacks c.loop-stack.stack-index c.stack-item.result c.undo.new.self (omega arith) inside c.stack-item.is
    (subst (λ (s : StackOf). IsUndone s c.undo.new.self) (sym c.stack-item.is) one) c.loop-stack.invariant
