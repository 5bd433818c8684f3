use Rattle.std.proofs.Common.{arith}
use Rattle.idle_splits.proofs.ShareLemmas.{one_share}
use Rattle.idle_splits.proofs.dear.is_dear.Goals as goal

pub leaf_bound-requires-clause-shares : goal.leaf_bound-requires-clause-shares
leaf_bound-requires-clause-shares c =
    one_share c.args.network.now c.args.cuts.now c.args.k c.args.share c.limits-bounds.ensures.bounds c.requires.cuts c.requires.share (omega arith) (omega arith)
