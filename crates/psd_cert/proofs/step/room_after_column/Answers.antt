use Rattle.std.proofs.Common.{◌-ℤ◌, arith, FitsSigned, to_z}
use Rattle.std.specs.Int.{w128}
use Rattle.std.proofs.lemmas.Int.{to_z-of_z}
use Rattle.chain_step.proofs.Products.{in_range}
use Rattle.psd_cert.proofs.RowTests.{column_stop, column_step}
use Rattle.psd_cert.proofs.step.room_after_column.Goals as goal

pub returns-then-rest-size : goal.returns-then-rest-size
returns-then-rest-size c =
    let f : FitsSigned w128 c.abs-size.result = record { sfits = c.abs-size.type_inv } in
    let g : FitsSigned w128 c.left_over_at.result = record { sfits = c.left_over_at.type_inv } in
    let test = simp (to_z-of_z, f) at c.if-rest-size.true in
    let size = simp (to_z-of_z, g) at c.abs-size.ensures.value in
    let entry = simp (to_z-of_z, c.ranges.scale) at c.left_over_at.ensures.value in
    let rest = simp (to_z-of_z, c.ranges.scale, c.ranges.room) at c.loop-j.invariant.0 in
    column_stop c.args.scale c.args.current.now c.args.remainder.now c.args.i c.loop-j.j c.args.room (to_z w128 c.loop-j.rest-bits) c.abs-size.result c.left_over_at.result
    c.loop-j-test.true rest size entry test

pub loop-j-preserved : goal.loop-j-preserved
loop-j-preserved c =
    let f : FitsSigned w128 c.abs-size.result = record { sfits = c.abs-size.type_inv } in
    let g : FitsSigned w128 c.left_over_at.result = record { sfits = c.left_over_at.type_inv } in
    let test = simp (to_z-of_z, f) at c.if-rest-size.false in
    let size = simp (to_z-of_z, g) at c.abs-size.ensures.value in
    let entry = simp (to_z-of_z, c.ranges.scale) at c.left_over_at.ensures.value in
    let rest = simp (to_z-of_z, c.ranges.scale, c.ranges.room) at c.loop-j.invariant.0 in
    let step = column_step c.args.scale c.args.current.now c.args.remainder.now c.args.i c.loop-j.j c.args.room (to_z w128 c.loop-j.rest-bits) c.abs-size.result c.left_over_at.result
    rest c.loop-j.invariant.1 c.loop-j.invariant.2 size entry test in
    let h : FitsSigned w128 (to_z w128 c.loop-j.rest-bits -ℤ c.abs-size.result) = in_range (to_z w128 c.loop-j.rest-bits -ℤ c.abs-size.result) (omega (arith, step.0)) in
    simp (to_z-of_z, f, h, c.ranges.scale, c.ranges.room) (step.1, step.2, step.0)
