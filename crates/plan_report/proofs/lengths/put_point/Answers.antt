use Rattle.std.proofs.Common.{arith, length-append}
use Rattle.net_build.specs.Build.{axis_limit, height_limit, limits_of_part, limits_of_point}
use Rattle.plan_report.proofs.LimitPlaces.{stand_first, stand_second}
use Rattle.plan_report.proofs.lengths.put_point.Goals as goal

pub put_part-requires-clause-number : goal.put_part-requires-clause-number
unfolding limits_of_point
put_part-requires-clause-number c =
    let us = c.args.reported.now.network.now.unknowns in
    stand_first c.args.reported.now.network.now.limits c.args.number (limits_of_part (axis_limit us c.args.place) c.args.point.now.plane) (limits_of_part (height_limit us c.args.place) c.args.point.now.height) c.requires.number

pub put_part-requires-2-clause-number : goal.put_part-requires-2-clause-number
unfolding limits_of_point
put_part-requires-2-clause-number c =
    let us = c.args.reported.now.network.now.unknowns in
    stand_second c.args.reported.now.network.now.limits c.args.number c.in_ok-next.next (limits_of_part (axis_limit us c.args.place) c.args.point.now.plane) (limits_of_part (height_limit us c.args.place) c.args.point.now.height) c.in_ok-next.ensures.next c.requires.number

pub returns-clause-next : goal.returns-clause-next
unfolding limits_of_point
returns-clause-next c =
    let us = c.args.reported.now.network.now.unknowns in
    let first = c.in_ok-next.ensures.next in
    let second = c.in_ok-last.ensures.next in
    omega (arith, first, second, length-append (limits_of_part (axis_limit us c.args.place) c.args.point.now.plane) (limits_of_part (height_limit us c.args.place) c.args.point.now.height))
