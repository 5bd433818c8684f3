use Rattle.std.specs.Prelude.{codes}
use Rattle.candidate_tables.specs.CandidateTable.{candidate_names}
use Rattle.plan_report.specs.RowsText.{numbered}
use Rattle.plan_report.specs.ReportText.{choice_text, point_lines, chosen_text, end_text, plan_text}
use Rattle.plan_report.proofs.ReportLines.{five_pieces}
use Rattle.plan_report.proofs.reports.found_text.Goals as goal

pub returns : goal.returns
unfolding plan_text
returns c =
    let reported = c.args.reported.now in
    let network = reported.network.now in
    let plan = reported.plan.now in
    let names = candidate_names reported.candidates.now in
    five_pieces c.in_ok-text.text.items c.put_choice.new.text.items c.put_points.new.text.items c.put_redundancies.new.text.items c.put_end.new.text.items
    (codes "plan\n") (choice_text names network plan) (numbered (point_lines network plan) 0 reported.points.now) (numbered (chosen_text network plan reported.q names) 0 network.candidates) (end_text network plan c.args.counts.now)
    c.in_ok-text.ensures.items c.in_ok-put_choice.ensures c.in_ok-put_points.ensures.text c.in_ok-put_redundancies.ensures.text c.in_ok-put_end.ensures
