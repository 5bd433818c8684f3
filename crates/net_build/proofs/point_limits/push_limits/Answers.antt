use Rattle.std.proofs.Common.{◌∙◌, ◌++◌, List, ap, append_assoc}
use Rattle.geo_model.specs.Limit.{LimitOf}
use Rattle.net_build.specs.Build.{axis_limit, height_limit, limits_of_part, limits_of_point}
use Rattle.net_build.proofs.point_limits.push_limits.Goals as goal

pub returns : goal.returns
unfolding limits_of_point
returns c =
    let axes = limits_of_part (axis_limit c.args.columns.now c.args.place) c.args.point.now.plane in
    let heights = limits_of_part (height_limit c.args.columns.now c.args.place) c.args.point.now.height in
    c.in_ok-push_height.ensures ∙ ap (λ (l : List LimitOf). l ++ heights) c.in_ok-push_axis.ensures ∙ append_assoc c.args.limits.now.items axes heights
