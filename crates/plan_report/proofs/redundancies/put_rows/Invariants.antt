use Rattle.std.proofs.Common.{◌≡◌, ◌++◌, [], take, get_or}
use Rattle.candidate_tables.specs.CandidateTable.{candidate_names}
use Rattle.pivot_chain.specs.Room.{IsRoomOf}
use Rattle.plan_report.specs.ReportText.{row_redundancy_text}
use Rattle.plan_report.specs.RowsText.{numbered}
use Rattle.plan_report.proofs.redundancies.put_rows.Given as goal

abbrev pub invariant-rows : goal.invariant-rows
invariant-rows l = record {
  room : IsRoomOf l.reported.network.now l.room;
  text : l.text.items ≡ l.fn.text.items
      ++ numbered (row_redundancy_text l.reported.network.now l.reported.plan.now l.reported.q (get_or (candidate_names l.reported.candidates.now) l.owner []) l.owner) 0 (take l.place l.candidate.rows);
}
