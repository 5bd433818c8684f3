use Rattle.branch_bound.proofs.VerdictLemmas.{refuted_by_verdict}
use Rattle.branch_bound.proofs.limit_verdicts.refutes.Goals as goal

pub returns-clause-refuted : goal.returns-clause-refuted
returns-clause-refuted c =
    refuted_by_verdict c.args.network.now c.args.node.now c.args.limit c.is_in_force.result c.is_refuted.result c.requires.limit c.is_in_force.ensures c.if-not-is_in_force.false c.is_refuted.ensures.exact
