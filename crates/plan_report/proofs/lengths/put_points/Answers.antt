use Rattle.std.proofs.Common.{◌+◌, ◌≤◌, ◌++◌, length, add-one, sym, refl, ◌∙◌, ap, subst, arith}
use Rattle.std.proofs.lemmas.List.{append-nil, take_all}
use Rattle.std.proofs.lemmas.Option.{get_or_from_slice_get}
use Rattle.net_build.specs.Build.{limits_of_point}
use Rattle.plan_report.specs.ReportText.{point_lines}
use Rattle.plan_report.specs.RowsText.{numbered}
use Rattle.plan_report.specs.Reported.{StandFrom}
use Rattle.plan_report.proofs.LimitPlaces.{point_stands, point_count}
use Rattle.plan_report.proofs.Numbered.{numbered-grows}
use Rattle.plan_report.proofs.lengths.put_points.Goals as goal

pub points-init : goal.points-init
points-init c = record { room = c.requires.room; text = sym (append-nil c.args.text.now.items); number = refl }

pub put_point-requires-clause-room : goal.put_point-requires-clause-room
put_point-requires-clause-room c = c.points.invariant.room

pub put_point-requires-clause-number : goal.put_point-requires-clause-number
put_point-requires-clause-number c =
    let reported = c.args.reported.now in
    subst (λ n. StandFrom reported.network.now.limits n (limits_of_point reported.network.now.unknowns (c.points.place, c.get.result.now))) (sym c.points.invariant.number)
    (point_stands reported.points.now reported.candidates.now reported.q reported.network.now c.points.place c.get.result.now c.requires.reported.network c.get.ensures.value)

pub points-preserved : goal.points-preserved
points-preserved c =
    let reported = c.args.reported.now in
    let count = point_count reported.network.now.unknowns reported.points.now c.points.place c.get.result.now c.get.ensures.value in
    let places = c.len-place-end.ensures.value in
    let test = c.points-test.true in
    record {
      room = c.put_point.ensures.room;
      text = numbered-grows (point_lines reported.network.now reported.plan.now) 0 c.points.place c.points.place reported.points.now c.get.result.now
          c.args.text.now.items c.points.text.items c.put_point.new.text.items
          (omega arith) (sym (get_or_from_slice_get reported.points.now c.points.place c.get.result.now c.get.result.now c.get.ensures.value)) (omega arith) c.points.invariant.text c.in_ok-number.ensures.text;
      number = rw add-one (c.in_ok-number.ensures.next ∙ ap (λ n. n + length (limits_of_point reported.network.now.unknowns (c.points.place, c.get.result.now))) c.points.invariant.number ∙ sym count);
    }

pub returns : goal.returns
returns c =
    let reported = c.args.reported.now in
    let places = c.len-place-end.ensures.value in
    let past : length reported.points.now ≤ c.points.place = omega arith in
    record {
      text = c.points.invariant.text ∙ ap (λ ps. c.args.text.now.items ++ numbered (point_lines reported.network.now reported.plan.now) 0 ps) (take_all c.points.place reported.points.now past);
      room = c.points.invariant.room;
    }
