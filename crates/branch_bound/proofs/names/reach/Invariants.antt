use Rattle.std.proofs.Common.{◌+◌, ◌-◌, length}
use Rattle.branch_bound.proofs.TellLemmas.{TellSame}
use Rattle.branch_bound.proofs.names.reach.Given as goal

abbrev pub invariant-loop-names : goal.invariant-loop-names
invariant-loop-names l = TellSame l.names.items l.initial.names.items

abbrev pub decreases-loop-names : goal.decreases-loop-names
decreases-loop-names l = (l.number + 1) - length l.names.items
