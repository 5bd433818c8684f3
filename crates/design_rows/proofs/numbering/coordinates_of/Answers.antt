use Rattle.std.proofs.Common.{[]}
use Rattle.design_rows.specs.Unknowns.{coordinates}
use Rattle.design_rows.proofs.NumberingFacts.{mapped-more}
use Rattle.design_rows.proofs.numbering.coordinates_of.Goals as goal

pub loop-place-preserved : goal.loop-place-preserved
loop-place-preserved c =
    mapped-more coordinates [] c.loop-place.unknowns.items c.push_coordinates.new.unknowns.items c.args.points.now c.loop-place.place c.get.result.now
    c.get.ensures.value c.loop-place.invariant c.in_ok-push_coordinates.ensures
