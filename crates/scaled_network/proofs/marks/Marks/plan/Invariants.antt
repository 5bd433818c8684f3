use Rattle.std.proofs.Common.{◌≡◌, length}
use Rattle.scaled_network.proofs.marks.Marks.plan.Given as goal

abbrev pub invariant-loop-candidate : goal.invariant-loop-candidate
invariant-loop-candidate l = record {
  places : length l.plan ≡ length l.network.candidates;
  count : l.count ≡ length l.network.candidates;
}
