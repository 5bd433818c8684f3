use Rattle.std.proofs.Common.{length, ◌-ℤ◌, arith, ◌≤ℤ◌, ◌<ℤ◌, ℤ, FitsSigned, to_z}
use Rattle.std.specs.Int.{w128}
use Rattle.std.proofs.lemmas.Int.{ints, to_z-of_z}
use Rattle.chain_step.proofs.Products.{in_range}
use Rattle.whole_algebra.specs.Sums.{int_sum}
use Rattle.whole_algebra.specs.Chains.{beside}
use Rattle.whole_algebra.specs.Grid.{row_at}
use Rattle.psd_cert.specs.LeftOver.{left_sizes}
use Rattle.psd_cert.proofs.Decided.{decided_true, decided_false}
use Rattle.psd_cert.proofs.RowTests.{beside_stop, beside_step, beside_end}
use Rattle.psd_cert.proofs.step.row_has_room.Goals as goal

not_below : (p q : ℤ) → p <ℤ q → q ≤ℤ p → ⊥
not_below p q h g = omega (arith, ints)

pub returns-then-rest-size : goal.returns-then-rest-size
returns-then-rest-size c =
    let f : FitsSigned w128 c.abs-size.result = record { sfits = c.abs-size.type_inv } in
    let g : FitsSigned w128 c.left_over_at.result = record { sfits = c.left_over_at.type_inv } in
    let test = simp (to_z-of_z, f) at c.if-rest-size.true in
    let size = simp (to_z-of_z, g) at c.abs-size.ensures.value in
    let entry = simp (to_z-of_z, c.ranges.scale) at c.left_over_at.ensures.value in
    let rest = simp (to_z-of_z, c.ranges.scale, c.ranges.room) at c.loop-k.invariant.0 in
    let below = rw c.size.ensures.rows at c.loop-k-test.true in
    let h = beside_stop c.args.scale (length c.args.remainder.now) c.args.current.now c.args.remainder.now c.args.i c.loop-k.k c.args.room (to_z w128 c.loop-k.rest-bits) c.abs-size.result c.left_over_at.result
    c.requires.step.shape c.requires.step.remainder_shape c.requires.within below rest size entry test in
    decided_false (not_below c.args.room (int_sum (beside (row_at (left_sizes c.args.scale c.args.current.now c.args.remainder.now) c.args.i))) h)

pub loop-k-preserved : goal.loop-k-preserved
loop-k-preserved c =
    let f : FitsSigned w128 c.abs-size.result = record { sfits = c.abs-size.type_inv } in
    let g : FitsSigned w128 c.left_over_at.result = record { sfits = c.left_over_at.type_inv } in
    let test = simp (to_z-of_z, f) at c.if-rest-size.false in
    let size = simp (to_z-of_z, g) at c.abs-size.ensures.value in
    let entry = simp (to_z-of_z, c.ranges.scale) at c.left_over_at.ensures.value in
    let rest = simp (to_z-of_z, c.ranges.scale, c.ranges.room) at c.loop-k.invariant.0 in
    let step = beside_step c.args.scale c.args.current.now c.args.remainder.now c.args.i c.loop-k.k c.args.room (to_z w128 c.loop-k.rest-bits) c.abs-size.result c.left_over_at.result
    rest c.loop-k.invariant.1 c.loop-k.invariant.2 size entry test in
    let h : FitsSigned w128 (to_z w128 c.loop-k.rest-bits -ℤ c.abs-size.result) = in_range (to_z w128 c.loop-k.rest-bits -ℤ c.abs-size.result) (omega (arith, step.0)) in
    simp (to_z-of_z, f, h, c.ranges.scale, c.ranges.room) (step.1, step.2, step.0)

pub returns : goal.returns
returns c =
    let rest = simp (to_z-of_z, c.ranges.scale, c.ranges.room) at c.loop-k.invariant.0 in
    let done = rw c.size.ensures.rows at c.loop-k-test.false in
    let most = rw c.size.ensures.rows at c.loop-k.auto.k-end in
    let h = beside_end c.args.scale (length c.args.remainder.now) c.args.current.now c.args.remainder.now c.args.i c.loop-k.k c.args.room (to_z w128 c.loop-k.rest-bits)
    c.requires.step.shape c.requires.step.remainder_shape c.requires.within (omega arith) rest c.loop-k.invariant.1 in
    decided_true h
