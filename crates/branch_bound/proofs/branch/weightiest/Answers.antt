use Rattle.std.proofs.Common.{◌<◌, length, ap, arith}
use Rattle.branch_bound.proofs.NodeLemmas.{same_plans}
use Rattle.branch_bound.proofs.branch.weightiest.Goals as goal

pub returns-in-None-clause-none : goal.returns-in-None-clause-none
returns-in-None-clause-none c =
    same_plans c.args.node.now.inside c.args.node.now.upper c.requires.within
    (λ k below in_upper not_inside.
    let within : k < c.loop-candidate.candidate = omega (arith, c.requires.inside_long, ap length c.candidates.ensures.value) in
    let in_range : k < length c.args.network.now.candidates = omega (arith, c.requires.inside_long) in
    c.loop-candidate.invariant.none c.in-None.is k within (record { in_range = in_range; in_upper = in_upper; not_inside = not_inside }))
