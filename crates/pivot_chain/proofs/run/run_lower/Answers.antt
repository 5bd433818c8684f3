use Rattle.std.proofs.Common.{rules, ◌≡◌, ◌+◌, ◌<◌, length, refl, sym, ◌∙◌, ap, subst, arith, unsigned_abs, ◌^◌, pos, ◌≤ℤ◌, FitsSigned}
use Rattle.std.specs.Int.{w128}
use Rattle.std.proofs.lemmas.Int.{to_z-of_z}
use Rattle.whole_algebra.specs.Matrices.{at, IsTriangle}
use Rattle.whole_algebra.specs.Grid.{row_at}
use Rattle.lent_parts.specs.Triangle.{tri_row}
use Rattle.chain_step.specs.declared.side.Side.TheVariants.{Lower}
use Rattle.pivot_chain.specs.Judging.{lower_of, upper_of}
use Rattle.pivot_chain.proofs.ChainRun.{begun, one_more, none_counted, gaps_more, slack_here, few_here, rows_more, stops_here, never_stops}
use Rattle.pivot_chain.proofs.Judged.{small_lower_of, small_upper_of, tall_lower_of, tall_upper_of}
use Rattle.pivot_chain.proofs.run.run_lower.Goals as goal

pub loop-k-init : goal.loop-k-init
loop-k-init c = record {
  so_far = begun Lower (lower_of c.args.grids.now) c.args.rows.now (c.requires.rows_room ∙ sym (tall_lower_of c.args.grids.now));
  lower_size = refl;
  upper = λ j lt. absurd (omega arith);
  upper_size = refl;
  shape = c.size-k-end.ensures.shape;
  counted = none_counted c.args.rows.now c.args.gaps.now;
  gaps_size = refl;
}

pub counted_slack-slack-requires-clause-within : goal.counted_slack-slack-requires-clause-within
counted_slack-slack-requires-clause-within c =
    let lt = c.loop-k-test.true in
    let count = c.size-k-end.ensures.rows in
    let room = c.requires.rows_room in
    let size = c.loop-k.invariant.gaps_size in
    let gaps = c.requires.gaps_room in
    omega arith

pub counted_slack-slack-requires-clause-few : goal.counted_slack-slack-requires-clause-few
counted_slack-slack-requires-clause-few c =
    let lt = c.loop-k-test.true in
    let count = c.size-k-end.ensures.rows in
    let most = c.size-k-end.ensures.most in
    let places = c.loop-k.invariant.so_far.places in
    let room = c.requires.rows_room in
    let tall = tall_lower_of c.args.grids.now in
    few_here c.loop-k.rows c.loop-k.gaps c.loop-k.k (omega arith) (omega arith) c.loop-k.invariant.counted

pub step_row-requires-clause-counted : goal.step_row-requires-clause-counted
step_row-requires-clause-counted c =
    let size = c.loop-k.invariant.gaps_size in
    let gaps = c.requires.gaps_room in
    let places = c.loop-k.invariant.so_far.places in
    let tall = tall_lower_of c.args.grids.now in
    omega arith

pub step_row-requires-clause-slack : goal.step_row-requires-clause-slack
step_row-requires-clause-slack c =
    let lt = c.loop-k-test.true in
    let count = c.size-k-end.ensures.rows in
    let most = c.size-k-end.ensures.most in
    let places = c.loop-k.invariant.so_far.places in
    let room = c.requires.rows_room in
    let tall = tall_lower_of c.args.grids.now in
    let f : FitsSigned w128 c.counted_slack-slack.result = search rules in
    simp (to_z-of_z, f)
    (c.counted_slack-slack.ensures ∙ slack_here c.loop-k.rows c.loop-k.gaps c.loop-k.k c.loop-k.invariant.shape (omega arith) c.loop-k.invariant.counted)

pub step_row-requires-clause-within : goal.step_row-requires-clause-within
step_row-requires-clause-within c =
    let lt = c.loop-k-test.true in
    let count = c.size-k-end.ensures.rows in
    let places = c.loop-k.invariant.so_far.places in
    let room = c.requires.rows_room in
    let tall = tall_lower_of c.args.grids.now in
    omega arith

pub step_row-requires-clause-few : goal.step_row-requires-clause-few
step_row-requires-clause-few c =
    let count = c.size-k-end.ensures.rows in
    let most = c.size-k-end.ensures.most in
    let places = c.loop-k.invariant.so_far.places in
    let room = c.requires.rows_room in
    let tall = tall_lower_of c.args.grids.now in
    omega arith

pub step_row-requires-clause-same : goal.step_row-requires-clause-same
step_row-requires-clause-same c =
    let places = c.loop-k.invariant.so_far.places in
    let size = c.loop-k.invariant.lower_size in
    let written = c.write_rows.ensures.lower_size in
    let room = c.requires.lower_room in
    let tall = tall_lower_of c.args.grids.now in
    omega arith

pub step_row-requires-clause-pivots : goal.step_row-requires-clause-pivots
step_row-requires-clause-pivots c = c.loop-k.invariant.so_far.pivots

pub step_row-requires-clause-size : goal.step_row-requires-clause-size
step_row-requires-clause-size c = λ m.
    subst (λ row. unsigned_abs (at row m) < 2 ^ 109) (sym c.write_rows.ensures.lower) ((small_lower_of c.args.grids.now c.candidates-bounds.ensures.bounds c.requires.made).each_size c.loop-k.k m)

pub step_row-requires-clause-head : goal.step_row-requires-clause-head
step_row-requires-clause-head c =
    subst (λ row. at row 0 ≤ℤ pos (2 ^ 60 + 64)) (sym c.write_rows.ensures.lower) ((small_lower_of c.args.grids.now c.candidates-bounds.ensures.bounds c.requires.made).heads c.loop-k.k)

pub returns-in-Some-clause-stop : goal.returns-in-Some-clause-stop
returns-in-Some-clause-stop c =
    let first = lower_of c.args.grids.now in
    let small = small_lower_of c.args.grids.now c.candidates-bounds.ensures.bounds c.requires.made in
    let so_far = c.loop-k.invariant.so_far in
    let here = c.step_row.ensures.exact first (subst (λ n. IsTriangle n first) (sym so_far.places) small.shape) so_far.done c.write_rows.ensures.lower in
    let lt = c.loop-k-test.true in
    let count = c.size-k-end.ensures.rows in
    let room = c.requires.rows_room in
    let tall = tall_lower_of c.args.grids.now in
    let f : FitsSigned w128 c.in-Some.value = search rules in
    simp (to_z-of_z, f)
    (stops_here Lower first c.loop-k.rows c.loop-k.k (tri_row c.step_row.new.rows c.loop-k.k) c.in-Some.value small.shape (omega arith) so_far here c.in-Some.ensures.answer)

pub returns-in-Some-clause-rows_size : goal.returns-in-Some-clause-rows_size
returns-in-Some-clause-rows_size c = c.step_row.ensures.places ∙ (c.loop-k.invariant.so_far.places ∙ (tall_lower_of c.args.grids.now ∙ sym c.requires.rows_room))

pub returns-clause-rows_size : goal.returns-clause-rows_size
returns-clause-rows_size c = c.loop-k.invariant.so_far.places ∙ (tall_lower_of c.args.grids.now ∙ sym c.requires.rows_room)

pub returns-in-Some-clause-lower_size : goal.returns-in-Some-clause-lower_size
returns-in-Some-clause-lower_size c = c.step_row.ensures.left_places ∙ (c.write_rows.ensures.lower_size ∙ c.loop-k.invariant.lower_size)

pub returns-clause-stop : goal.returns-clause-stop
returns-clause-stop c =
    let small = small_lower_of c.args.grids.now c.candidates-bounds.ensures.bounds c.requires.made in
    let done = c.loop-k-test.false in
    let count = c.size-k-end.ensures.rows in
    let room = c.requires.rows_room in
    let tall = tall_lower_of c.args.grids.now in
    never_stops Lower (lower_of c.args.grids.now) c.loop-k.rows c.loop-k.k small.shape (omega arith) c.loop-k.invariant.so_far

pub write_rows-requires-clause-within : goal.write_rows-requires-clause-within
write_rows-requires-clause-within c =
    let lt = c.loop-k-test.true in
    let count = c.size-k-end.ensures.rows in
    let room = c.requires.rows_room in
    omega arith

pub write_rows-requires-clause-lower_room : goal.write_rows-requires-clause-lower_room
write_rows-requires-clause-lower_room c = c.loop-k.invariant.lower_size ∙ c.requires.lower_room

pub returns-in-Some-clause-upper : goal.returns-in-Some-clause-upper
returns-in-Some-clause-upper c =
    rows_more c.loop-k.upper c.write_rows.new.upper (row_at (upper_of c.args.grids.now)) c.loop-k.k c.loop-k.invariant.upper c.write_rows.ensures.upper_others c.write_rows.ensures.upper

pub loop-k-preserved : goal.loop-k-preserved
loop-k-preserved c =
    let first = lower_of c.args.grids.now in
    let small = small_lower_of c.args.grids.now c.candidates-bounds.ensures.bounds c.requires.made in
    let so_far = c.loop-k.invariant.so_far in
    let here = c.step_row.ensures.exact first (subst (λ n. IsTriangle n first) (sym so_far.places) small.shape) so_far.done c.write_rows.ensures.lower in
    record {
      so_far = one_more Lower first c.loop-k.rows c.step_row.new.rows c.loop-k.k so_far c.step_row.ensures.places c.step_row.ensures.others here c.in_default.ensures.answer;
      lower_size = c.step_row.ensures.left_places ∙ (c.write_rows.ensures.lower_size ∙ c.loop-k.invariant.lower_size);
      upper = rows_more c.loop-k.upper c.write_rows.new.upper (row_at (upper_of c.args.grids.now)) c.loop-k.k c.loop-k.invariant.upper c.write_rows.ensures.upper_others c.write_rows.ensures.upper;
      upper_size = c.write_rows.ensures.upper_size ∙ c.loop-k.invariant.upper_size;
      shape = c.step_row.ensures.shape;
      counted = gaps_more c.loop-k.rows c.step_row.new.rows c.loop-k.gaps c.step_row.new.gaps c.loop-k.k c.loop-k.invariant.counted c.step_row.ensures.places
          c.step_row.ensures.others c.step_row.ensures.gap_others c.step_row.ensures.gaps;
      gaps_size = c.step_row.ensures.gap_places ∙ c.loop-k.invariant.gaps_size;
    }

pub returns-in-Some-clause-gaps_size : goal.returns-in-Some-clause-gaps_size
returns-in-Some-clause-gaps_size c = c.step_row.ensures.gap_places ∙ c.loop-k.invariant.gaps_size
