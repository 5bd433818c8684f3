use Rattle.std.specs.Prelude.{codes}
use Rattle.candidate_tables.specs.CandidateTable.{candidate_names}
use Rattle.plan_report.specs.ReportText.{choice_text, end_text, undecided_text}
use Rattle.plan_report.proofs.ReportLines.{four_pieces}
use Rattle.plan_report.proofs.reports.undecided_report.Goals as goal

pub returns : goal.returns
unfolding undecided_text
returns c =
    let reported = c.args.reported.now in
    let network = reported.network.now in
    let plan = reported.plan.now in
    four_pieces c.in_ok-text.text.items c.put_choice.new.text.items c.extend_from_slice.new.self.items c.put_end.new.text.items
    (codes "undecided\n") (choice_text (candidate_names reported.candidates.now) network plan) c.args.line.now (end_text network plan c.args.counts.now)
    c.in_ok-text.ensures.items c.in_ok-put_choice.ensures c.in_ok-extend_from_slice.ensures.items c.in_ok-put_end.ensures
