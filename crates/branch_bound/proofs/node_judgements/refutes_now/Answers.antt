use Rattle.branch_bound.proofs.InheritedLemmas.{refutes_not}
use Rattle.branch_bound.proofs.node_judgements.refutes_now.Goals as goal

pub returns-then-not-is_owned_by-clause-refuted : goal.returns-then-not-is_owned_by-clause-refuted
returns-then-not-is_owned_by-clause-refuted c =
    refutes_not c.args.network.now c.args.node.now c.args.inherited.now c.args.limit c.in-Some.candidate c.is_owned_by.result c.requires.inherited c.in-Some.is c.is_owned_by.ensures c.if-not-is_owned_by.true
