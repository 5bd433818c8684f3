use Rattle.std.proofs.Common.{◌<◌, length, IfSome}
use Rattle.pivot_chain.specs.Certified.{IsCertified}
use Rattle.pivot_chain.specs.Room.{IsRoomOf}
use Rattle.greedy_start.proofs.deletion.take_out_each.Given as goal

abbrev pub invariant-loop-offer : goal.invariant-loop-offer
invariant-loop-offer l = record {
  room : IsRoomOf l.fn.network l.room;
  certified : IsCertified l.fn.network l.plan;
  suspect : IfSome l.suspect (λ limit. limit < length l.fn.network.limits);
}
