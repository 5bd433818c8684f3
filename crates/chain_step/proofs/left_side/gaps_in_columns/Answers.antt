use Rattle.std.proofs.Common.{◌+◌, ◌≤◌, get_or, pos, ◌+ℤ◌, ap₂, ◌∙◌, sym, arith, to_z, FitsSigned}
use Rattle.std.specs.Int.{w128}
use Rattle.std.proofs.lemmas.Int.{to_z-of_z}
use Rattle.chain_step.proofs.Products.{in_range}
use Rattle.chain_step.specs.Step.{gap_at}
use Rattle.chain_step.proofs.Quotients.{gap_size, divided_gap}
use Rattle.chain_step.proofs.Gaps.{one_more, added_high, added_size}
use Rattle.chain_step.proofs.left_side.gaps_in_columns.Goals as goal
use Rattle.whole_algebra.proofs.Order.{add_nonneg}

pub loop-i-preserved : goal.loop-i-preserved
loop-i-preserved c =
    let d = c.requires.pivot in
    let sum = to_z w128 c.loop-i.sum-bits in
    let gap = c.quotient-floor.result.1 in
    let few = d.few in
    let room = c.requires.room in
    let lt = c.loop-i-test.true in
    let short : c.loop-i.i ≤ 64 = omega arith in
    let f : FitsSigned w128 gap = in_range gap (gap_size gap c.quotient-floor.ensures.low c.quotient-floor.ensures.high) in
    let h : FitsSigned w128 (sum +ℤ gap) = in_range (sum +ℤ gap) (added_size sum gap c.loop-i.i short c.loop-i.invariant.low c.loop-i.invariant.high c.quotient-floor.ensures.low c.quotient-floor.ensures.high) in
    let a : FitsSigned w128 (get_or c.args.pivot.now 0 (pos 0)) = in_range (get_or c.args.pivot.now 0 (pos 0)) (let s = d.each_size 0 in omega arith) in
    let p : FitsSigned w128 (get_or c.args.pivot.now c.args.column (pos 0)) = in_range (get_or c.args.pivot.now c.args.column (pos 0)) (let s = d.each_size c.args.column in omega arith) in
    let q : FitsSigned w128 (get_or c.args.pivot.now (c.args.first + c.loop-i.i) (pos 0)) = in_range (get_or c.args.pivot.now (c.args.first + c.loop-i.i) (pos 0)) (let s = d.each_size (c.args.first + c.loop-i.i) in omega arith) in
    let one = get_or c.args.pivot.now 0 (pos 0) in
    let own = get_or c.args.pivot.now c.args.column (pos 0) in
    let other = get_or c.args.pivot.now (c.args.first + c.loop-i.i) (pos 0) in
    let pivot_is = simp (to_z-of_z, a) at c.new-divisor.ensures.pivot in
    let factor_is = simp (to_z-of_z, p) at c.new-divisor.ensures.factor in
    let v = (simp (to_z-of_z, q) at c.quotient-floor.ensures.gap) ∙ divided_gap c.new-divisor.result.pivot c.new-divisor.result.factor one own other pivot_is factor_is in
    simp (to_z-of_z, f, h) (record {
      value = ap₂ (λ s t. s +ℤ t) c.loop-i.invariant.value v ∙ sym (one_more (gap_at c.args.pivot.now c.args.column) c.args.first c.loop-i.i);
      low = add_nonneg sum gap c.loop-i.invariant.low c.quotient-floor.ensures.low;
      high = added_high sum gap c.loop-i.i (c.loop-i.i + 1) (omega arith) c.loop-i.invariant.high c.quotient-floor.ensures.high;
    })
