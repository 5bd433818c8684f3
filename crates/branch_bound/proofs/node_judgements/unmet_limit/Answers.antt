use Rattle.std.proofs.Common.{◌<◌, length, ap, arith}
use Rattle.pivot_chain.proofs.CertifiedLemmas.{certified_by}
use Rattle.branch_bound.proofs.node_judgements.unmet_limit.Goals as goal

pub returns-clause-none : goal.returns-clause-none
returns-clause-none c =
    certified_by c.args.network.now c.args.plan.now c.requires.plan
    (λ k within. let inside : k < c.loop-limit.limit = omega (arith, ap length c.limits.ensures.value) in c.loop-limit.invariant.met k inside)
