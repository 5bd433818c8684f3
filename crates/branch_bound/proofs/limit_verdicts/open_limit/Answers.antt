use Rattle.std.proofs.Common.{rules, FitsSigned}
use mir.Syntax.{w128}
use Rattle.std.proofs.lemmas.Int.{to_z-of_z}
use Rattle.branch_bound.proofs.VerdictLemmas.{open_by}
use Rattle.branch_bound.proofs.limit_verdicts.open_limit.Goals as goal

pub returns-in-Open-clause-found : goal.returns-in-Open-clause-found
returns-in-Open-clause-found c =
    let fits_lo : FitsSigned w128 c.in-Open.lo = search rules in
    let fits_hi : FitsSigned w128 c.in-Open.hi = search rules in
    simp (to_z-of_z) (open_by c.args.network.now c.args.plan.now c.args.limit c.in-Open.step c.in-Open.lo c.in-Open.hi c.is_in_force.result c.requires.limit c.is_in_force.ensures c.if-not-is_in_force.false c.in-Open.ensures.exact)
