use Rattle.std.specs.Prelude.{codes}
use Rattle.std.proofs.Common.{◌++◌, ◌∙◌, ap}
use Rattle.geo_model.specs.Prices.{price_of}
use Rattle.plan_report.specs.ReportText.{price_text, counts_text}
use Rattle.limit_lines.proofs.Pieces.{before}
use Rattle.plan_report.proofs.reports.put_end.Goals as goal

pub returns : goal.returns
returns c =
    let reported = c.args.reported.now in
    before c.args.text.now.items c.put_counts.new.text.items c.put_price.new.text.items (counts_text c.args.counts.now) (price_text (codes "bound ") (price_of reported.network.now reported.plan.now))
    c.in_ok-put_counts.ensures (c.in_ok-put_price.ensures ∙ ap (λ p. c.put_counts.new.text.items ++ price_text (codes "bound ") p) c.cost-price.ensures)
