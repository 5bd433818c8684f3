use Rattle.std.proofs.Common.{◌∙◌, ◌≤◌, [], List, ap, arith, length}
use Rattle.std.specs.List.{enumerate_from, flat_map}
use Rattle.std.proofs.lemmas.List.{take_all}
use Rattle.point_tables.specs.declared.record.PointRecord.{PointRecord}
use Rattle.point_tables.specs.Accepted.{IsAccepted}
use Rattle.design_rows.proofs.NumberingFacts.{mapped-more}
use Rattle.net_build.specs.Build.{limits_of_point, point_limits}
use Rattle.net_build.proofs.StepFacts.{All-one}
use Rattle.net_build.proofs.point_limits.point_limits.Goals as goal

pub points-preserved : goal.points-preserved
points-preserved c = record {
  limits =
      mapped-more (limits_of_point c.args.columns.now) [] c.points.limits.items c.push_limits.new.limits.items c.args.points.now c.points.place c.get.result.now
      c.get.ensures.value c.points.invariant.limits c.in_ok-push_limits.ensures;
  accepted = All-one IsAccepted c.args.points.now c.points.place c.get.result.now c.get.ensures.value c.points.invariant.accepted c.get.ensures.accepted;
}

pub returns-clause-limits : goal.returns-clause-limits
unfolding point_limits
returns-clause-limits c =
    let past : length c.args.points.now ≤ c.points.place = omega (arith, c.len-place-end.ensures.value) in
    c.points.invariant.limits
    ∙ ap (λ (l : List PointRecord). flat_map (limits_of_point c.args.columns.now) (enumerate_from 0 l)) (take_all c.points.place c.args.points.now past)
