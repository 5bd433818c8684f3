use Rattle.std.proofs.Common.{◌≡◌, ◌-◌, ◌≤◌, slice_get, Some}
use Rattle.geo_model.specs.Limit.{LimitOf}
use Rattle.geo_model.specs.Values.{with_value}
use Rattle.pivot_chain.specs.Room.{IsRoomOf}
use Rattle.pivot_chain.specs.Verdict.{verdict_of}
use Rattle.plan_report.specs.Shown.{is_met, halved}
use Rattle.plan_report.proofs.shown.shown_length.Given as goal

abbrev pub invariant-halving : goal.invariant-halving
invariant-halving l = record {
  room : IsRoomOf l.network l.room;
  order : l.low ≤ l.high;
  top : l.high ≤ l.value;
  same : (given : LimitOf) → slice_get l.network.limits l.limit ≡ Some given
      → halved (λ v. is_met (verdict_of l.network l.plan (with_value given v))) l.value l.low l.high
      ≡ halved (λ v. is_met (verdict_of l.network l.plan (with_value given v))) l.value 0 l.value;
}

abbrev pub decreases-halving : goal.decreases-halving
decreases-halving l = l.high - l.low
