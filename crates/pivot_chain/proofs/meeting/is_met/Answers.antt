use Rattle.std.proofs.Common.{rules, ◌≡◌, ◌↔◌, IsTrue}
use Rattle.geo_model.specs.declared.verdict.Verdict.TheVariants.{Met}
use Rattle.pivot_chain.proofs.CertifiedLemmas.{met_when}
use Rattle.pivot_chain.proofs.meeting.is_met.Goals as goal

pub returns-clause-met : goal.returns-clause-met
returns-clause-met c =
    let tests : IsTrue c.eq.result ↔ (c.verdict.result ≡ Met) = search rules in
    met_when c.args.network.now c.args.plan.now c.args.limit c.is_in_force.result c.eq.result c.verdict.result c.requires.limit c.is_in_force.ensures c.if-not-is_in_force.false c.verdict.ensures.exact tests
