use Rattle.std.proofs.Common.{[]}
use Rattle.trial.specs.Stacks.{AreStacks}
use Rattle.trial.proofs.stacks.new_stacks.Given as goal

abbrev pub invariant-limits : goal.invariant-limits
invariant-limits l = AreStacks l.network l.plan [] l.number l.stacks.items
