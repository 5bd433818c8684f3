use Rattle.std.proofs.Common.{◌∙◌, arith, sym}
use Rattle.idle_splits.proofs.Filled.{same_flags}
use Rattle.idle_splits.proofs.fill.copy_into.Goals as goal

pub returns : goal.returns
returns c = same_flags c.loop-i.room c.args.plan.now (c.loop-i.invariant.long ∙ sym c.requires.plan) (λ k inside. c.loop-i.invariant.same k (omega (arith, c.loop-i.invariant.long)))
