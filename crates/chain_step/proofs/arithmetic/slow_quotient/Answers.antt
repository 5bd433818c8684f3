use Rattle.std.proofs.Common.{FitsSigned}
use Rattle.std.specs.Int.{w128}
use Rattle.std.proofs.lemmas.Int.{to_z-of_z}
use Rattle.geo_base.specs.Division.{floor_of}
use Rattle.chain_step.proofs.arithmetic.slow_quotient.Goals as goal

pub gap_of-requires-clause-floor : goal.gap_of-requires-clause-floor
unfolding floor_of
gap_of-requires-clause-floor c =
    let f : FitsSigned w128 c.floor_div-floor.result = record { sfits = c.floor_div-floor.type_inv } in
    let v = simp (to_z-of_z, c.ranges.number, c.ranges.a) at c.floor_div-floor.ensures.value in
    simp (to_z-of_z, f, c.ranges.number, c.ranges.a) v

pub returns-clause-floor : goal.returns-clause-floor
unfolding floor_of
returns-clause-floor c =
    let f : FitsSigned w128 c.floor_div-floor.result = record { sfits = c.floor_div-floor.type_inv } in
    let v = simp (to_z-of_z, c.ranges.number, c.ranges.a) at c.floor_div-floor.ensures.value in
    simp (to_z-of_z, f) v
