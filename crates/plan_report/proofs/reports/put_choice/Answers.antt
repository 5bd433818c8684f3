use Rattle.std.specs.Prelude.{codes}
use Rattle.std.proofs.Common.{◌++◌, ◌∙◌, ap, sym}
use Rattle.geo_model.specs.Prices.{price_of}
use Rattle.candidate_tables.specs.CandidateTable.{candidate_names}
use Rattle.plan_report.specs.ReportText.{price_text, takes_text}
use Rattle.plan_report.proofs.LimitPlaces.{as_many}
use Rattle.limit_lines.proofs.Pieces.{before}
use Rattle.plan_report.proofs.reports.put_choice.Goals as goal

pub put_takes-requires : goal.put_takes-requires
put_takes-requires c =
    let reported = c.args.reported.now in
    as_many reported.points.now reported.candidates.now reported.q reported.network.now c.requires.network ∙ sym c.requires.long

pub returns : goal.returns
returns c =
    let reported = c.args.reported.now in
    before c.args.text.now.items c.put_price.new.text.items c.put_takes.new.text.items (price_text (codes "cost ") (price_of reported.network.now reported.plan.now)) (takes_text (candidate_names reported.candidates.now) reported.plan.now)
    (c.in_ok-put_price.ensures ∙ ap (λ p. c.args.text.now.items ++ price_text (codes "cost ") p) c.cost-price.ensures) c.in_ok-put_takes.ensures
