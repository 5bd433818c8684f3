use Rattle.bound_log.proofs.MeaningLemmas.{one_bound, one_tree_bound}
use Rattle.bound_log.proofs.tree_laws.a_text_has_one_bound.Goals as goal

pub returns-clause-text : goal.returns-clause-text
returns-clause-text c = one_bound

pub returns-clause-formats : goal.returns-clause-formats
returns-clause-formats c = one_tree_bound
