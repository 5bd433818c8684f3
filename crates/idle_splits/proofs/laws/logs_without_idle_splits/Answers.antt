use Rattle.bound_log.specs.LogTree.{root_of}
use Rattle.idle_splits.proofs.Lines.{tree_to_splits, splits_to_tree}
use Rattle.idle_splits.proofs.laws.logs_without_idle_splits.Goals as goal

pub returns : goal.returns
returns c = λ network tree. (tree_to_splits network (root_of network) tree, splits_to_tree network (root_of network) tree)
