use Rattle.bound_log.proofs.TreeLemmas.{allowed_by_each, each_allowed, placed_lines}
use Rattle.bound_log.proofs.tree_laws.trees_are_allowed_line_by_line.Goals as goal

pub returns-clause-allowed : goal.returns-clause-allowed
returns-clause-allowed c = λ network node tree. (each_allowed network node tree, allowed_by_each network node tree)

pub returns-clause-lines : goal.returns-clause-lines
returns-clause-lines c = placed_lines
