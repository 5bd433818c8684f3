use Rattle.std.proofs.Common.{◌≡◌, ◌∙◌, ap, true}
use Rattle.table_rows.specs.Faults.{first_broken}
use Rattle.candidate_tables.specs.Kinds.{KindRulesOf, rules_of}
use Rattle.candidate_tables.proofs.RuleFacts.{height-found, height-other, height-rules}
use Rattle.candidate_tables.proofs.figures.read_height.Goals as goal

pub returns-then-not-rules : goal.returns-then-not-rules
returns-then-not-rules c =
    let field = λ (rules : KindRulesOf). rules.has_height_deviation in
    height-other c.args.kind c.args.text.now (cc (ap field c.rules.ensures, ap field c.rules-2.view_is))

pub returns-in-Ok : goal.returns-in-Ok
returns-in-Ok c =
    let field = λ (rules : KindRulesOf). rules.has_height_deviation in
    let has : (rules_of c.args.kind).has_height_deviation ≡ true = cc (ap field c.rules.ensures, ap field c.rules-2.view_is) in
    (ap first_broken (height-rules c.args.kind c.args.text.now has) ∙ c.in-Ok.ensures.0, height-found c.args.kind c.args.text.now c.in-Ok.value has c.in-Ok.ensures.1)

pub returns-in-Err : goal.returns-in-Err
returns-in-Err c =
    let field = λ (rules : KindRulesOf). rules.has_height_deviation in
    ap first_broken (height-rules c.args.kind c.args.text.now (cc (ap field c.rules.ensures, ap field c.rules-2.view_is))) ∙ c.in-Err.ensures
