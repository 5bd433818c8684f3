use Rattle.std.proofs.Common.{◌<◌, length, arith}
use Rattle.design_rows.specs.Unknowns.{orientation}
use Rattle.design_rows.proofs.NumberingFacts.{element-at, mapped-more}
use Rattle.design_rows.proofs.numbering.push_orientations.Goals as goal

pub loop-place-preserved : goal.loop-place-preserved
loop-place-preserved c =
    let within : c.loop-place.place < length c.args.points.now = omega (arith, c.len-place-end.ensures.value) in
    let (point, at) = element-at c.args.points.now c.loop-place.place within in
    mapped-more (orientation c.args.candidates.now) c.args.unknowns.now.items c.loop-place.unknowns.items c.push_orientation.new.unknowns.items c.args.points.now
    c.loop-place.place point at c.loop-place.invariant (c.in_ok-push_orientation.ensures point)
