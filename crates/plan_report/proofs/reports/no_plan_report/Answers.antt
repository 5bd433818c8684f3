use Rattle.std.specs.Prelude.{codes}
use Rattle.plan_report.specs.ReportText.{counts_text}
use Rattle.plan_report.proofs.ReportLines.{three_pieces}
use Rattle.plan_report.proofs.reports.no_plan_report.Goals as goal

pub returns : goal.returns
returns c =
    three_pieces c.in_ok-text.text.items c.put_counts.new.text.items c.extend_from_slice.new.self.items
    (codes "no plan\n") (counts_text c.args.counts.now) (codes "bound none\n") c.in_ok-text.ensures.items c.in_ok-put_counts.ensures c.in_ok-extend_from_slice.ensures.items
