use Rattle.std.proofs.Common.{◌≡◌, Some, slice_get}
use Rattle.geo_model.specs.Limit.{LimitOf}
use Rattle.pivot_chain.specs.Room.{IsRoomOf}
use Rattle.pivot_chain.specs.Verdict.{verdict_of}
use Rattle.verdict_cli.proofs.verdicts.repeated.Given as goal

abbrev pub invariant-loop : goal.invariant-loop
invariant-loop l = record {
  room : IsRoomOf l.network l.room;
  exact : (form : LimitOf) → slice_get l.network.limits l.limit ≡ Some form → l.last ≡ verdict_of l.network l.plan form;
}
