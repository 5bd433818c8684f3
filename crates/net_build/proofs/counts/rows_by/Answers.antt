use Rattle.std.proofs.Common.{◌≡◌, ap}
use Rattle.candidate_tables.specs.Kinds.{KindRulesOf, rules_of}
use Rattle.net_build.proofs.PartFacts.{few-rows, rows-by}
use Rattle.net_build.proofs.counts.rows_by.Goals as goal

pub returns-clause-rows : goal.returns-clause-rows
returns-clause-rows c = λ points unknowns.
    let count : c.result.inside.rows ≡ (rules_of c.args.candidate.now.kind).rows =
    cc (ap (λ (rules : KindRulesOf). rules.rows) c.rules.ensures, ap (λ (rules : KindRulesOf). rules.rows) c.result.view_is) in
    rows-by points unknowns c.args.candidate.now c.result.inside.rows count

pub returns-clause-few : goal.returns-clause-few
returns-clause-few c =
    let count : c.result.inside.rows ≡ (rules_of c.args.candidate.now.kind).rows =
    cc (ap (λ (rules : KindRulesOf). rules.rows) c.rules.ensures, ap (λ (rules : KindRulesOf). rules.rows) c.result.view_is) in
    rw count (few-rows c.args.candidate.now.kind)
