use Rattle.std.proofs.Common.{◌+◌, ◌-◌, ◌^◌, ◌<◌, ◌≤◌, get_or, length, pos, ◌+ℤ◌, ap₂, ◌∙◌, sym, subst, arith, to_z, unsigned_abs, FitsSigned}
use Rattle.std.specs.Int.{w128}
use Rattle.std.proofs.lemmas.Int.{to_z-of_z}
use Rattle.whole_algebra.specs.Matrices.{at}
use Rattle.whole_algebra.proofs.Written.{written}
use Rattle.whole_algebra.proofs.Order.{add_nonneg}
use Rattle.chain_step.proofs.Products.{in_range}
use Rattle.chain_step.specs.Step.{gap_at, taken}
use Rattle.chain_step.proofs.Quotients.{gap_size, divided_floor, divided_gap}
use Rattle.chain_step.proofs.Gaps.{right_more, added_high, added_size}
use Rattle.chain_step.proofs.RowWrites.{unwritten, sum_size, count_size}
use Rattle.chain_step.proofs.step.divide_right.Goals as goal

pub overflow_add-row : goal.overflow_add-row
overflow_add-row c =
    let r = get_or c.loop-m.row c.loop-m.m (pos 0) in
    let floor = c.quotient-floor.result.0 in
    let size : unsigned_abs r ≤ 2 ^ 120 = subst (λ z. unsigned_abs z ≤ 2 ^ 120) (sym (c.loop-m.invariant.ahead c.loop-m.m (omega arith))) (c.requires.size c.loop-m.m) in
    let f : FitsSigned w128 r = in_range r (omega arith) in
    let g : FitsSigned w128 floor = in_range floor (let s = c.quotient-floor.ensures.size in omega arith) in
    let h : FitsSigned w128 (r +ℤ floor) = in_range (r +ℤ floor) (sum_size r floor size c.quotient-floor.ensures.size) in
    simp (to_z-of_z, f, g) h

pub overflow_add-gaps : goal.overflow_add-gaps
overflow_add-gaps c =
    let g = get_or c.loop-m.gaps c.loop-m.m (pos 0) in
    let gap = c.quotient-floor.result.1 in
    let size : unsigned_abs g ≤ 2 ^ 40 = subst (λ z. unsigned_abs z ≤ 2 ^ 40) (sym (c.loop-m.invariant.gaps_ahead c.loop-m.m (omega arith))) (c.requires.counts c.loop-m.m) in
    let f : FitsSigned w128 g = in_range g (omega arith) in
    let e : FitsSigned w128 gap = in_range gap (gap_size gap c.quotient-floor.ensures.low c.quotient-floor.ensures.high) in
    let h : FitsSigned w128 (g +ℤ gap) = in_range (g +ℤ gap) (count_size g gap size c.quotient-floor.ensures.low c.quotient-floor.ensures.high) in
    simp (to_z-of_z, f, e) h

pub loop-m-preserved : goal.loop-m-preserved
loop-m-preserved c =
    let d = c.requires.pivot in
    let few = d.few in
    let room = c.requires.room in
    let lt = c.loop-m-test.true in
    let kept = c.loop-m.auto.row in
    let inside : c.loop-m.m < length c.loop-m.row = omega arith in
    let one : 1 ≤ c.loop-m.m = omega arith in
    let short : c.loop-m.m - 1 ≤ 64 = omega arith in
    let slack = to_z w128 c.loop-m.slack-bits in
    let gap = c.quotient-floor.result.1 in
    let floor = c.quotient-floor.result.0 in
    let r = get_or c.loop-m.row c.loop-m.m (pos 0) in
    let here = c.loop-m.invariant.ahead c.loop-m.m (omega arith) in
    let size : unsigned_abs r ≤ 2 ^ 120 = subst (λ z. unsigned_abs z ≤ 2 ^ 120) (sym here) (c.requires.size c.loop-m.m) in
    let f1 : FitsSigned w128 r = in_range r (omega arith) in
    let f2 : FitsSigned w128 floor = in_range floor (let s = c.quotient-floor.ensures.size in omega arith) in
    let f3 : FitsSigned w128 (r +ℤ floor) = in_range (r +ℤ floor) (sum_size r floor size c.quotient-floor.ensures.size) in
    let f4 : FitsSigned w128 gap = in_range gap (gap_size gap c.quotient-floor.ensures.low c.quotient-floor.ensures.high) in
    let f5 : FitsSigned w128 (slack +ℤ gap) = in_range (slack +ℤ gap) (added_size slack gap (c.loop-m.m - 1) short c.loop-m.invariant.low c.loop-m.invariant.high c.quotient-floor.ensures.low c.quotient-floor.ensures.high) in
    let g = get_or c.loop-m.gaps c.loop-m.m (pos 0) in
    let kept_gaps = c.loop-m.auto.gaps in
    let same = c.requires.same in
    let inside_gaps : c.loop-m.m < length c.loop-m.gaps = omega arith in
    let here_gaps = c.loop-m.invariant.gaps_ahead c.loop-m.m (omega arith) in
    let gaps_size : unsigned_abs g ≤ 2 ^ 40 = subst (λ z. unsigned_abs z ≤ 2 ^ 40) (sym here_gaps) (c.requires.counts c.loop-m.m) in
    let f6 : FitsSigned w128 g = in_range g (omega arith) in
    let f7 : FitsSigned w128 (g +ℤ gap) = in_range (g +ℤ gap) (count_size g gap gaps_size c.quotient-floor.ensures.low c.quotient-floor.ensures.high) in
    let a = get_or c.args.pivot.now 0 (pos 0) in
    let p = get_or c.args.pivot.now c.args.column (pos 0) in
    let other = get_or c.args.pivot.now (c.args.column + c.loop-m.m) (pos 0) in
    let q : FitsSigned w128 (get_or c.args.pivot.now (c.args.column + c.loop-m.m) (pos 0)) = in_range (get_or c.args.pivot.now (c.args.column + c.loop-m.m) (pos 0)) (let s = d.each_size (c.args.column + c.loop-m.m) in omega arith) in
    let v = (simp (to_z-of_z, q) at c.quotient-floor.ensures.gap) ∙ divided_gap c.args.divisor.pivot c.args.divisor.factor a p other c.requires.divisor c.requires.factor in
    let w = (simp (to_z-of_z, q) at c.quotient-floor.ensures.floor) ∙ divided_floor c.args.divisor.pivot c.args.divisor.factor a p other c.requires.divisor c.requires.factor in
    simp (to_z-of_z, f1, f2, f3, f4, f5, f6, f7) (record {
      value = ap₂ (λ s t. s +ℤ t) c.loop-m.invariant.value v ∙ sym (right_more (gap_at c.args.pivot.now c.args.column) c.args.column c.loop-m.m one);
      low = add_nonneg slack gap c.loop-m.invariant.low c.quotient-floor.ensures.low;
      high = added_high slack gap (c.loop-m.m - 1) ((c.loop-m.m + 1) - 1) (omega arith) c.loop-m.invariant.high c.quotient-floor.ensures.high;
      diagonal = unwritten c.loop-m.row c.loop-m.m 0 (r +ℤ floor) (λ e. absurd (omega arith)) ∙ c.loop-m.invariant.diagonal;
      right = written c.loop-m.row (λ i. at c.args.row.now i +ℤ taken c.args.pivot.now c.args.column (c.args.column + i)) c.loop-m.m (r +ℤ floor) inside (ap₂ (λ s t. s +ℤ t) here w) c.loop-m.invariant.right;
      ahead = λ i le. unwritten c.loop-m.row c.loop-m.m i (r +ℤ floor) (λ e. absurd (omega arith)) ∙ c.loop-m.invariant.ahead i (omega arith);
      gaps = written c.loop-m.gaps (λ i. at c.args.gaps.now i +ℤ gap_at c.args.pivot.now c.args.column (c.args.column + i)) c.loop-m.m (g +ℤ gap) inside_gaps (ap₂ (λ s t. s +ℤ t) here_gaps v) c.loop-m.invariant.gaps;
      gaps_ahead = λ i le. unwritten c.loop-m.gaps c.loop-m.m i (g +ℤ gap) (λ e. absurd (omega arith)) ∙ c.loop-m.invariant.gaps_ahead i (omega arith);
      apart = unwritten c.loop-m.gaps c.loop-m.m 0 (g +ℤ gap) (λ e. absurd (omega arith)) ∙ c.loop-m.invariant.apart;
    })
