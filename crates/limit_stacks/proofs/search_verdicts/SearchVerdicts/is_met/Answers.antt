use Rattle.limit_stacks.proofs.Keeping.{witness_by}
use Rattle.limit_stacks.proofs.search_verdicts.SearchVerdicts.is_met.Goals as goal

pub keep_witness-requires-clause-witness : goal.keep_witness-requires-clause-witness
keep_witness-requires-clause-witness c =
    witness_by c.args.network.now c.args.plan.now c.args.limit c.is_in_force.result c.candidates-bounds.ensures.bounds c.requires.plan c.is_in_force.ensures c.if-not-is_in_force.false
    (c.is_met.ensures.met.0 c.if-not-is_met.false)
