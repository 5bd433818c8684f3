use Rattle.std.proofs.Common.{◌≤◌}
use Rattle.pivot_chain.proofs.plan.difference.Given as goal

abbrev pub invariant-loop-i : goal.invariant-loop-i
invariant-loop-i l = l.count ≤ l.i
