use Rattle.std.proofs.Common.{◌<◌, sym, ◌∙◌, arith}
use Rattle.limit_stacks.proofs.Within.{within_by}
use Rattle.limit_stacks.proofs.witnesses.is_within.Goals as goal

pub returns : goal.returns
returns c = λ yes.
    within_by c.args.small.now c.args.large.now (c.requires.small ∙ sym c.requires.large)
    (λ j below. let inside : j < c.loop-i.i = omega arith in c.loop-i.invariant j inside)
