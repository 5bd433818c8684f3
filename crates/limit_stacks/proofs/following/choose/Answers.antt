use Rattle.std.proofs.Common.{rules, ◌≡◌, Some, ap, ◌∙◌}
use Rattle.pivot_chain.proofs.Plans.{set_same}
use Rattle.limit_stacks.proofs.following.choose.Goals as goal

pub returns-then-has-chosen-clause-plan : goal.returns-then-has-chosen-clause-plan
returns-then-has-chosen-clause-plan g c =
    let same : c.has.result ≡ c.args.chosen = search rules in
    set_same c.args.stack.now.now.plan c.args.i c.args.chosen (c.has.ensures ∙ ap Some same)
