use Rattle.pivot_chain.specs.Certified.{IsCertified}
use Rattle.pivot_chain.specs.Room.{IsRoomOf}
use Rattle.greedy_start.proofs.stations.take_out_stations.Given as goal

abbrev pub invariant-loop-offer : goal.invariant-loop-offer
invariant-loop-offer l = record {
  room : IsRoomOf l.fn.network l.room;
  certified : IsCertified l.fn.network l.plan;
}
