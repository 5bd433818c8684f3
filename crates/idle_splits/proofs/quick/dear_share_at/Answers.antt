use Rattle.idle_splits.proofs.ShareLemmas.{shows_dear}
use Rattle.idle_splits.proofs.quick.dear_share_at.Goals as goal

pub returns : goal.returns
returns c =
    shows_dear c.args.network.now c.args.node.now c.args.cuts.now c.args.k c.args.earlier c.share_of-share.result c.requires.cuts c.share_of-share.ensures.share (c.is_dear.ensures.0 c.if-not-is_dear.false)
