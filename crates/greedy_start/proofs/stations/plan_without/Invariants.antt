use Rattle.std.proofs.Common.{◌≡◌, length}
use Rattle.greedy_start.proofs.stations.plan_without.Given as goal

abbrev pub invariant-loop-candidate : goal.invariant-loop-candidate
invariant-loop-candidate l = length l.without ≡ length l.fn.network.candidates
