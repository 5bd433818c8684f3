use Rattle.std.proofs.Common.{◌≡◌, ◌+◌, ◌-◌, ◌^◌, ◌≤◌, get_or, length, pos, ◌+ℤ◌, ap, ap₂, ◌∙◌, sym, subst, arith, unsigned_abs, FitsSigned}
use Rattle.std.specs.Int.{w128}
use Rattle.std.proofs.lemmas.Int.{ints, to_z-of_z}
use Rattle.std.proofs.lemmas.List.{get_or-set_same}
use Rattle.chain_step.proofs.Products.{in_range}
use Rattle.chain_step.specs.Step.{gap_at, sum_from, taken, with_slack, right_of}
use Rattle.chain_step.proofs.Quotients.{gap_size, divided_floor, divided_gap}
use Rattle.chain_step.proofs.RowWrites.{unwritten, sum_size, whole_size}
use Rattle.chain_step.proofs.step.divide.Goals as goal

pub overflow_add-row : goal.overflow_add-row
overflow_add-row c =
    let r = get_or c.divide_right-right.new.row 0 (pos 0) in
    let floor = c.quotient-floor.result.0 in
    let size : unsigned_abs r ≤ 2 ^ 120 = subst (λ z. unsigned_abs z ≤ 2 ^ 120) (sym c.divide_right-right.ensures.diagonal) (c.requires.size 0) in
    let f : FitsSigned w128 r = in_range r (omega arith) in
    let g : FitsSigned w128 floor = in_range floor (let s = c.quotient-floor.ensures.size in omega arith) in
    let h : FitsSigned w128 (r +ℤ floor) = in_range (r +ℤ floor) (sum_size r floor size c.quotient-floor.ensures.size) in
    simp (to_z-of_z, f, g) h

pub add_slack-requires-clause-number : goal.add_slack-requires-clause-number
add_slack-requires-clause-number c =
    let r = get_or c.divide_right-right.new.row 0 (pos 0) in
    let floor = c.quotient-floor.result.0 in
    let size : unsigned_abs r ≤ 2 ^ 120 = subst (λ z. unsigned_abs z ≤ 2 ^ 120) (sym c.divide_right-right.ensures.diagonal) (c.requires.size 0) in
    let f : FitsSigned w128 r = in_range r (omega arith) in
    let g : FitsSigned w128 floor = in_range floor (let s = c.quotient-floor.ensures.size in omega arith) in
    let h : FitsSigned w128 (r +ℤ floor) = in_range (r +ℤ floor) (sum_size r floor size c.quotient-floor.ensures.size) in
    simp (to_z-of_z, f, g, h) (whole_size r floor size c.quotient-floor.ensures.size)

pub returns-clause-right : goal.returns-clause-right
returns-clause-right c = λ m one lt.
    unwritten c.divide_right-right.new.row 0 m _ (λ e. absurd (omega arith)) ∙ c.divide_right-right.ensures.right m one lt

pub returns-clause-diagonal : goal.returns-clause-diagonal
returns-clause-diagonal c =
    let d = c.requires.pivot in
    let few = d.few in
    let room = c.requires.room in
    let r = get_or c.divide_right-right.new.row 0 (pos 0) in
    let floor = c.quotient-floor.result.0 in
    let gap = c.quotient-floor.result.1 in
    let right = c.divide_right-right.result in
    let size : unsigned_abs r ≤ 2 ^ 120 = subst (λ z. unsigned_abs z ≤ 2 ^ 120) (sym c.divide_right-right.ensures.diagonal) (c.requires.size 0) in
    let f1 : FitsSigned w128 r = in_range r (omega arith) in
    let f2 : FitsSigned w128 floor = in_range floor (let s = c.quotient-floor.ensures.size in omega arith) in
    let f3 : FitsSigned w128 (r +ℤ floor) = in_range (r +ℤ floor) (sum_size r floor size c.quotient-floor.ensures.size) in
    let f4 : FitsSigned w128 gap = in_range gap (gap_size gap c.quotient-floor.ensures.low c.quotient-floor.ensures.high) in
    let f5 : FitsSigned w128 right = in_range right (omega (arith, ints, c.divide_right-right.ensures.low, c.divide_right-right.ensures.high)) in
    let f8 : FitsSigned w128 c.add_slack.result = record { sfits = c.add_slack.type_inv } in
    let a : FitsSigned w128 (get_or c.args.pivot.now 0 (pos 0)) = in_range (get_or c.args.pivot.now 0 (pos 0)) (let s = d.each_size 0 in omega arith) in
    let p : FitsSigned w128 (get_or c.args.pivot.now c.args.column (pos 0)) = in_range (get_or c.args.pivot.now c.args.column (pos 0)) (let s = d.each_size c.args.column in omega arith) in
    let one = get_or c.args.pivot.now 0 (pos 0) in
    let other = get_or c.args.pivot.now c.args.column (pos 0) in
    let pivot_is = simp (to_z-of_z, a) at c.new-divisor.ensures.pivot in
    let factor_is = simp (to_z-of_z, p) at c.new-divisor.ensures.factor in
    let v = (simp (to_z-of_z, p) at c.quotient-floor.ensures.gap) ∙ divided_gap c.new-divisor.result.pivot c.new-divisor.result.factor one other other pivot_is factor_is in
    let w = (simp (to_z-of_z, p) at c.quotient-floor.ensures.floor) ∙ divided_floor c.new-divisor.result.pivot c.new-divisor.result.factor one other other pivot_is factor_is in
    let result = simp (to_z-of_z, f1, f2, f3, f4, f5) at c.add_slack.ensures in
    let some = c.requires.some in
    let kept = c.divide_right-right.auto.row in
    let long : length c.args.row.now - 1 ≡ length c.args.pivot.now - (c.args.column + 1) = omega arith in
    simp (to_z-of_z, f8) (
    get_or-set_same c.divide_right-right.new.row 0 c.add_slack.result (pos 0) (omega arith)
    ∙ result
    ∙ ap₂ (λ s t. with_slack c.args.side s gap t) (ap₂ (λ s t. s +ℤ t) c.divide_right-right.ensures.diagonal w)
    (c.divide_right-right.ensures.value ∙ ap (sum_from (gap_at c.args.pivot.now c.args.column) (c.args.column + 1)) long)
    ∙ ap (λ g. with_slack c.args.side (get_or c.args.row.now 0 (pos 0) +ℤ taken c.args.pivot.now c.args.column c.args.column) g (right_of c.args.pivot.now c.args.column)) v
    )
