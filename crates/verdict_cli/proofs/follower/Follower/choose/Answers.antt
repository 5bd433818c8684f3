use Rattle.std.proofs.Common.{rules, ◌≡◌, Some, length, ◌∙◌, ap, arith}
use Rattle.factor_stack.proofs.Changes.{plan_long}
use Rattle.pivot_chain.proofs.Plans.{set_same}
use Rattle.verdict_cli.proofs.follower.Follower.choose.Goals as goal

pub has-requires : goal.has-requires
has-requires c =
    let long = plan_long c.args.network.now c.args.self.now.stack c.requires.made in
    let inside = c.requires.inside in
    omega arith

pub returns-then-has-chosen-clause-plan : goal.returns-then-has-chosen-clause-plan
returns-then-has-chosen-clause-plan c =
    let same : c.has.result ≡ c.args.chosen = search rules in
    set_same c.args.self.now.stack.now.plan c.args.i c.args.chosen (c.has.ensures ∙ ap (λ b. Some b) same)
