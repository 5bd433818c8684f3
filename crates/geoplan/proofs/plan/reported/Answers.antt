use Rattle.std.proofs.Common.{sym, subst}
use Rattle.geo_model.specs.Network.{NetworkOf}
use Rattle.plan_report.specs.Reported.{IsAnswerFor}
use Rattle.geoplan.proofs.PlanOutcome.{reports_made, network_along, report_along}
use Rattle.geoplan.proofs.plan.reported.Goals as goal

pub report-text-requires-clause-network : goal.report-text-requires-clause-network
report-text-requires-clause-network c =
    network_along c.args.tables.now c.points.result.now c.candidates.result.now c.redundancy.result c.network.result.now
    c.points.ensures c.candidates.ensures c.redundancy.ensures c.network.ensures c.requires.good.reported

pub report-text-requires-clause-answer : goal.report-text-requires-clause-answer
report-text-requires-clause-answer c = subst (λ (n : NetworkOf). IsAnswerFor n c.args.done.now.answer) (sym c.network.ensures) c.requires.answer

pub returns : goal.returns
returns c =
    reports_made c.args.tables.now c.args.done.now.counts c.args.done.now.answer c.status_of.result c.made.result.status c.made.result.text.items c.report-text.result
    c.status_of.ensures
    (report_along c.args.tables.now c.points.result.now c.candidates.result.now c.redundancy.result c.network.result.now
    c.points.ensures c.candidates.ensures c.redundancy.ensures c.network.ensures c.args.done.now.counts c.args.done.now.answer c.report-text.result c.report-text.ensures)
    c.made.ensures
