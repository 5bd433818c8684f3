use Rattle.std.proofs.Common.{arith, FitsSigned}
use Rattle.std.specs.Int.{w128}
use Rattle.std.proofs.lemmas.Int.{ints, to_z-of_z}
use Rattle.psd_cert.proofs.Decided.{decided_false, decided_by}
use Rattle.chain_step.proofs.Products.{in_range}
use Rattle.psd_cert.proofs.LeftOverLaws.{row_is_dominant, column_too_large, diagonal_too_small}
use Rattle.psd_cert.proofs.step.is_row_dominant.Goals as goal

pub returns-then-room-lt0 : goal.returns-then-room-lt0
returns-then-room-lt0 c =
    let f : FitsSigned w128 c.left_over_at-room.result = record { sfits = c.left_over_at-room.type_inv } in
    let test = simp (to_z-of_z, f) at c.if-room-lt0.true in
    let entry = simp (to_z-of_z, c.ranges.scale) at c.left_over_at-room.ensures.value in
    decided_false (diagonal_too_small c.args.scale c.args.current.now c.args.remainder.now c.args.i c.left_over_at-room.result entry (omega (arith, ints, test)))

pub returns-in-Some : goal.returns-in-Some
returns-in-Some c =
    let f : FitsSigned w128 c.left_over_at-room.result = record { sfits = c.left_over_at-room.type_inv } in
    let entry = simp (to_z-of_z, c.ranges.scale) at c.left_over_at-room.ensures.value in
    let rest = simp (to_z-of_z, f, c.ranges.scale) at c.in-Some.ensures.0 in
    let g : FitsSigned w128 c.in-Some.rest = in_range c.in-Some.rest (omega (arith, c.in-Some.ensures.2)) in
    let tells = simp (to_z-of_z, g, c.ranges.scale) at c.row_has_room.ensures in
    decided_by c.row_has_room.result tells
    (row_is_dominant c.args.scale c.args.current.now c.args.remainder.now c.args.i c.left_over_at-room.result c.in-Some.rest entry rest)

pub returns-in-None : goal.returns-in-None
returns-in-None c =
    let f : FitsSigned w128 c.left_over_at-room.result = record { sfits = c.left_over_at-room.type_inv } in
    let entry = simp (to_z-of_z, c.ranges.scale) at c.left_over_at-room.ensures.value in
    let less = simp (to_z-of_z, f, c.ranges.scale) at c.in-None.ensures in
    decided_false (column_too_large c.args.scale c.args.current.now c.args.remainder.now c.args.i c.left_over_at-room.result entry less)
