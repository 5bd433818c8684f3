use Rattle.std.proofs.Common.{◌<◌, length, ap, arith}
use Rattle.std.proofs.lemmas.Option.{slice_get_within}
use Rattle.branch_bound.proofs.node_judgements.refuting_limit.Goals as goal

pub returns-clause-none : goal.returns-clause-none
returns-clause-none c = λ k refuted.
    let inside : k < c.loop-limit.limit =
    omega (arith, slice_get_within c.args.network.now.limits k refuted.limit refuted.named, ap length c.limits.ensures.value) in
    c.loop-limit.invariant.none k inside refuted
