use Rattle.std.proofs.Common.{◌+◌, sym, subst}
use Rattle.verdict_cli.specs.Followers.{AreFollowers}
use Rattle.verdict_cli.proofs.Follows.{one_follower_more}
use Rattle.verdict_cli.proofs.followers.followers_of.Goals as goal

pub limits-preserved : goal.limits-preserved
limits-preserved c =
    subst (AreFollowers c.args.network.now (c.limits.limit + 1)) (sym c.in_ok-push.ensures.items)
    (one_follower_more c.args.network.now c.limits.followers.items c.limits.limit c.in_ok-follower.follower c.limits.invariant c.in_ok-follower.ensures)
