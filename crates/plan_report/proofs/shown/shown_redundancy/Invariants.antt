use Rattle.std.proofs.Common.{◌≡◌, ◌-◌, ◌≤◌, slice_get, Some}
use Rattle.std.specs.Prelude.{not}
use Rattle.geo_model.specs.Candidate.{CandidateOf}
use Rattle.geo_model.specs.Row.{RowOf}
use Rattle.geo_model.specs.Values.{row_limit}
use Rattle.pivot_chain.specs.Room.{IsRoomOf}
use Rattle.pivot_chain.specs.Verdict.{verdict_of}
use Rattle.plan_report.specs.Shown.{is_met, halved}
use Rattle.plan_report.proofs.shown.shown_redundancy.Given as goal

abbrev pub invariant-halving : goal.invariant-halving
invariant-halving l = record {
  room : IsRoomOf l.network l.room;
  order : l.low ≤ l.high;
  top : l.high ≤ 1000;
  same : (owner : CandidateOf) (given : RowOf) → slice_get l.network.candidates l.candidate ≡ Some owner → slice_get owner.rows l.row ≡ Some given
      → halved (λ v. not (is_met (verdict_of l.network l.plan (row_limit l.candidate l.row given v)))) 1000 l.low l.high
      ≡ halved (λ v. not (is_met (verdict_of l.network l.plan (row_limit l.candidate l.row given v)))) 1000 l.least 1000;
}

abbrev pub decreases-halving : goal.decreases-halving
decreases-halving l = l.high - l.low
