use Rattle.std.proofs.Common.{rules, ◌≡◌, ◌+◌, ◌-◌, ◌^◌, ◌<◌, pos, ◌≤ℤ◌, FitsSigned, ◌+ℤ◌, length, sym, ◌∙◌, ap, refl, subst, arith}
use Rattle.std.specs.Int.{w128}
use Rattle.std.proofs.lemmas.Int.{to_z-of_z}
use Rattle.std.proofs.lemmas.List.{get_or-set_same}
use Rattle.whole_algebra.specs.Matrices.{at}
use Rattle.whole_algebra.specs.Chains.{matrix_after}
use Rattle.whole_algebra.specs.Grid.{row_at}
use Rattle.chain_step.proofs.RowSteps.{made_whole}
use Rattle.chain_step.specs.Step.{over_of, IsPivotRow, gap_at, left_of, with_slack, with_left, column_in, left_slack}
use Rattle.lent_parts.specs.Triangle.{tri_row}
use Rattle.chain_step.proofs.StepsSoFar.{one_step_more, size_more, head_more, counts_more, left_slack_more, gap_count_more, slack_range, slack_size, whole_head}
use Rattle.chain_step.proofs.steps.take_steps.Goals as goal

pub take_part-requires-clause-pivot : goal.take_part-requires-clause-pivot
take_part-requires-clause-pivot c =
    let lt = c.loop-t-test.true in
    let count = c.size-t-end.ensures.rows in
    subst IsPivotRow (sym c.row.ensures) (c.requires.pivots c.loop-t.t (omega arith))

pub take_part-requires-clause-shorter : goal.take_part-requires-clause-shorter
take_part-requires-clause-shorter c =
    let lt = c.loop-t-test.true in
    let count = c.size-t-end.ensures.rows in
    let kept = c.loop-t.auto.row in
    let shorter = c.requires.shorter c.loop-t.t (omega arith) in
    let same = ap length c.row.ensures in
    omega arith

pub loop-t-preserved : goal.loop-t-preserved
loop-t-preserved c =
    let lt = c.loop-t-test.true in
    let count = c.size-t-end.ensures.rows in
    let kept = c.loop-t.auto.row in
    let before = c.args.before.now in
    let t = c.loop-t.t in
    let inside : t < length before = omega arith in
    let long = length c.args.row.now in
    let same : length c.loop-t.row ≡ long = kept in
    let step = rw same at (rw c.row.ensures at c.take_part.ensures.exact) in
    let counted = rw same at (rw c.row.ensures at c.take_part.ensures.gaps) in
    record {
      size = λ m. size_more (at c.loop-t.row m) (at c.take_part.new.row m) t (c.loop-t.invariant.size m) (c.take_part.ensures.size m);
      head = head_more (at c.loop-t.row 0) (at c.take_part.new.row 0) t c.loop-t.invariant.head c.take_part.ensures.head;
      counts = λ m. counts_more (at c.loop-t.gaps m) (at c.take_part.new.gaps m) t (c.loop-t.invariant.counts m) (c.take_part.ensures.counted m);
      gaps = λ m one less. counted m one less ∙ (ap (λ z. z +ℤ gap_at (tri_row before t) (column_in (tri_row before t) long) (column_in (tri_row before t) long + m)) (c.loop-t.invariant.gaps m one less)
          ∙ sym (gap_count_more before long m t));
      exact = λ n k matrix shape place few known start.
          ap (λ z. with_left c.args.side z c.take_part.new.row) (left_slack_more before long t)
          ∙ one_step_more c.args.side n k t long before matrix (with_left c.args.side (left_slack before long t) c.loop-t.row)
          (with_left c.args.side (left_slack before long t +ℤ left_of (tri_row before t) (column_in (tri_row before t) long)) c.take_part.new.row)
          shape place few inside known c.requires.pivots (c.loop-t.invariant.exact n k matrix shape place few known start)
          (λ m t0 first is. step (left_slack before long t) m t0 first is);
    }

pub add_slack-requires-clause-slack : goal.add_slack-requires-clause-slack
add_slack-requires-clause-slack c =
    let most = c.size-t-end.ensures.most in
    let count = c.size-t-end.ensures.rows in
    let range = slack_range c.args.before.now (length c.args.row.now) (length c.args.before.now) c.args.slack c.requires.slack c.requires.pivots refl in
    simp (to_z-of_z, c.ranges.slack) (slack_size c.args.slack (length c.args.before.now) (omega arith) range.0 range.1)

-- the number of its diagonal
summed : (c : goal.After-add_slack) → c.add_slack.result ≡ with_slack c.args.side (at c.loop-t.row 0) (pos 0) c.args.slack
summed c =
    let f : FitsSigned w128 (at c.loop-t.row 0) = search rules in
    simp (to_z-of_z, f, c.ranges.slack) at c.add_slack.ensures

pub returns-clause-exact : goal.returns-clause-exact
returns-clause-exact c = λ n k matrix shape place few known start.
    let kept = c.loop-t.auto.row in
    let some = c.requires.some in
    let done = c.loop-t-test.false in
    let end = c.loop-t.auto.t-end in
    let count = c.size-t-end.ensures.rows in
    let all : c.loop-t.t ≡ length c.args.before.now = omega arith in
    let h : FitsSigned w128 c.add_slack.result = record { sfits = c.add_slack.type_inv } in
    simp (to_z-of_z, h)
    (made_whole c.args.side c.loop-t.row c.args.slack c.add_slack.result (omega arith) (summed c)
    ∙ ap (λ s. with_left c.args.side s c.loop-t.row) (c.requires.slack ∙ ap (left_slack c.args.before.now (length c.args.row.now)) (sym all))
    ∙ c.loop-t.invariant.exact n k matrix shape place few known start
    ∙ ap (λ j. row_at (matrix_after (over_of c.args.side) j matrix) (k - j)) all)

pub returns-clause-head : goal.returns-clause-head
returns-clause-head c =
    let kept = c.loop-t.auto.row in
    let some = c.requires.some in
    let most = c.size-t-end.ensures.most in
    let end = c.loop-t.auto.t-end in
    let done = c.loop-t-test.false in
    let count = c.size-t-end.ensures.rows in
    let range = slack_range c.args.before.now (length c.args.row.now) c.loop-t.t c.args.slack c.requires.slack c.requires.pivots (omega arith) in
    let h : FitsSigned w128 c.add_slack.result = record { sfits = c.add_slack.type_inv } in
    simp (to_z-of_z, h)
    (subst (λ z. z ≤ℤ pos (2 ^ 61)) (sym (get_or-set_same c.loop-t.row 0 c.add_slack.result (pos 0) (omega arith) ∙ summed c))
    (whole_head c.args.side (at c.loop-t.row 0) c.args.slack c.loop-t.t (omega arith) c.loop-t.invariant.head range.0 range.1))
