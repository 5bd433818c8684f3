use Rattle.std.proofs.Common.{◌≤◌}
use Rattle.geo_model.specs.Prices.{price_of}
use Rattle.pivot_chain.specs.Certified.{IsCertified}
use Rattle.pivot_chain.specs.Room.{IsRoomOf}
use Rattle.local_search.proofs.improvement.try_moves.Given as goal

abbrev pub invariant-moving : goal.invariant-moving
invariant-moving l = record {
  room : IsRoomOf l.fn.network l.search.room;
  certified : IsCertified l.fn.network l.search.best;
  no_dearer : price_of l.fn.network l.search.best ≤ price_of l.fn.network l.fn.search.best;
}
