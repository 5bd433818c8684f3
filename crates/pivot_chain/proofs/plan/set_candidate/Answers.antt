use Rattle.std.proofs.Common.{rules, ◌≡◌, Some, slice_get, subst}
use Rattle.pivot_chain.proofs.Plans.{set_same}
use Rattle.pivot_chain.proofs.plan.set_candidate.Goals as goal

pub returns-then-has-chosen-clause-plan : goal.returns-then-has-chosen-clause-plan
returns-then-has-chosen-clause-plan c =
    let same : c.has.result ≡ c.args.chosen = search rules in
    set_same c.args.normal.now.plan c.args.i c.args.chosen (subst (λ b. slice_get c.args.normal.now.plan c.args.i ≡ Some b) same c.has.ensures)
