use Rattle.std.proofs.Common.{◌≡◌, length}
use Rattle.kernel_tests.proofs.proposals.proposed_at.Given as goal

abbrev pub invariant-loop-one : goal.invariant-loop-one
invariant-loop-one l = record {
  inside : length l.node.inside ≡ length l.network.candidates;
  upper : length l.node.upper ≡ length l.network.candidates;
}
