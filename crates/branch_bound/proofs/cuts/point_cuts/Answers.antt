use Rattle.std.proofs.Common.{rules, ◌≡◌, length}
use Rattle.branch_bound.proofs.PointLemmas.{points-all, points-start}
use Rattle.branch_bound.proofs.cuts.point_cuts.Goals as goal

pub loop-unknown-init : goal.loop-unknown-init
loop-unknown-init c = points-start c.args.network.now c.new-pool.result c.new-pool.ensures

pub returns : goal.returns
returns c =
    let whole : c.loop-unknown.unknown ≡ length c.args.network.now.unknowns = search rules in
    points-all c.args.network.now c.loop-unknown.pool c.loop-unknown.unknown c.candidates-bounds.ensures.bounds whole c.loop-unknown.invariant
