use Rattle.std.proofs.Common.{◌≡◌, length, ap, arith}
use Rattle.factor_stack.proofs.Changes.{plan_long}
use Rattle.verdict_cli.proofs.follower.Follower.take_back.Goals as goal

pub has-requires : goal.has-requires
has-requires c =
    let count : length c.candidates.result.now ≡ length c.args.network.now.candidates = ap length c.candidates.ensures.value in
    let inside = c.if-i-candidates.false in
    let long = plan_long c.args.network.now c.args.self.now.stack c.requires.made in
    omega arith
