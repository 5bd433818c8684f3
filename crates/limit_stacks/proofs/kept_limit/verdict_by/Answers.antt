use Rattle.std.proofs.Common.{◌≡◌, List, Bool, ap, ◌∙◌}
use Rattle.std.specs.Prelude.{slice_get}
use Rattle.pivot_chain.specs.Verdict.{verdict_of}
use Rattle.limit_stacks.proofs.kept_limit.verdict_by.Goals as goal

pub returns-clause-exact : goal.returns-clause-exact
returns-clause-exact c = λ l named.
    let same : c.bring.new.stack.limit ≡ c.args.limit = c.in_ok-bring.ensures.limit ∙ c.take_back.ensures.limit ∙ c.requires.stack.limit in
    c.verdict-2.ensures.exact c.args.network.now l c.candidates-bounds.ensures.bounds c.in_ok-bring.ensures.made (ap (slice_get c.args.network.now.limits) same ∙ named)
    ∙ ap (λ (plan : List Bool). verdict_of c.args.network.now plan l) c.in_ok-bring.ensures.plan
