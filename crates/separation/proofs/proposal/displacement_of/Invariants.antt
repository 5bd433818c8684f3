use Rattle.std.proofs.Common.{◌≡◌, length}
use Rattle.separation.proofs.proposal.displacement_of.Given as goal

abbrev pub invariant-loop-unknown : goal.invariant-loop-unknown
invariant-loop-unknown l = record {
  places : length l.x ≡ length l.network.unknowns;
  size : l.size ≡ length l.network.unknowns;
}
