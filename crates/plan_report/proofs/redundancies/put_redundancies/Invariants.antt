use Rattle.std.proofs.Common.{◌≡◌, ◌++◌, take}
use Rattle.candidate_tables.specs.CandidateTable.{candidate_names}
use Rattle.pivot_chain.specs.Room.{IsRoomOf}
use Rattle.plan_report.specs.ReportText.{chosen_text}
use Rattle.plan_report.specs.RowsText.{numbered}
use Rattle.plan_report.proofs.redundancies.put_redundancies.Given as goal

abbrev pub invariant-offers : goal.invariant-offers
invariant-offers l = record {
  room : IsRoomOf l.reported.network.now l.room;
  text : l.text.items ≡ l.fn.text.items ++ numbered (chosen_text l.reported.network.now l.reported.plan.now l.reported.q (candidate_names l.reported.candidates.now)) 0 (take l.owner l.offered);
}
