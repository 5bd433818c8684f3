use Rattle.pivot_chain.proofs.CertifiedLemmas.{met_at}
use Rattle.limit_stacks.proofs.Keeping.{witness_by}
use Rattle.limit_stacks.proofs.search_verdicts.SearchVerdicts.keep_certified.Goals as goal

pub keep_witness-requires-clause-witness : goal.keep_witness-requires-clause-witness
keep_witness-requires-clause-witness c =
    witness_by c.args.network.now c.args.plan.now c.loop-limit.limit c.is_in_force.result c.limits.ensures.bounds c.requires.certified.long c.is_in_force.ensures c.if-is_in_force.true
    (met_at c.args.network.now c.args.plan.now c.loop-limit.limit c.requires.certified.certified)
