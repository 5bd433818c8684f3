use Rattle.std.proofs.Common.{◌≡◌, ℕ, ◌+◌, ◌-◌, ◌<◌, ◌≤◌, ℤ, pos, ◌+ℤ◌, ◌≤ℤ◌, length, FitsSigned, to_z, ◌∙◌, sym, ap, arith}
use mir.Syntax.{w128}
use Rattle.std.proofs.lemmas.Int.{ints, to_z-of_z, fits_signed_from_abs}
use Rattle.whole_algebra.specs.Rounding.{floor_over}
use Rattle.whole_algebra.specs.Matrices.{at}
use Rattle.whole_algebra.specs.Grid.{row_at}
use Rattle.whole_algebra.proofs.Written.{written}
use Rattle.limit_forms.specs.Grid.{on_grid, grid_step}
use Rattle.limit_forms.proofs.Rows.{right_more}
use Rattle.limit_forms.proofs.row.write_right.Goals as goal

record IsCount (slack gap : ℤ) (m : ℕ) : Type 0 where
  pub low : pos 0 ≤ℤ (slack +ℤ gap)
  pub high : (slack +ℤ gap) ≤ℤ pos ((m + 1) - 1)
  pub narrow : FitsSigned w128 gap
  pub fits : FitsSigned w128 (slack +ℤ gap)

count : (slack gap : ℤ) (m : ℕ) → 1 ≤ m → m ≤ 64 → pos 0 ≤ℤ slack → slack ≤ℤ pos (m - 1) → pos 0 ≤ℤ gap → gap ≤ℤ pos 1 → IsCount slack gap m
count slack gap m one small low high none most = record {
  low = omega (arith, ints);
  high = omega (arith, ints);
  narrow = fits_signed_from_abs w128 gap (omega (arith, ints));
  fits = fits_signed_from_abs w128 (slack +ℤ gap) (omega (arith, ints));
}

pub loop-m-preserved : goal.loop-m-preserved
loop-m-preserved c =
    let grid = on_grid c.args.form.now.network.now c.args.form.now.normal.now.plan c.args.form.now.alpha c.args.form.now.squares.now in
    let slack = to_z w128 c.loop-m.slack-bits in
    let room = c.requires.lower_room in
    let upper_room = c.requires.upper_room in
    let few = c.requires.few in
    let inside : c.loop-m.m < length c.args.lower.now = omega arith in
    let n = count slack c.gap_of-slack.result c.loop-m.m (omega arith) (omega arith) c.loop-m.invariant.low c.loop-m.invariant.high c.gap_of-slack.ensures.low c.gap_of-slack.ensures.high in
    let e = n.narrow in
    let f = n.fits in
    let b : FitsSigned w128 c.grid_entry-number.result.0 = fits_signed_from_abs w128 c.grid_entry-number.result.0 (let s = c.grid_entry-number.ensures.size in omega arith) in
    let back : (c.args.k + c.loop-m.m) - c.args.k ≡ c.loop-m.m = omega arith in
    let value = c.loop-m.invariant.value in
    let whole = rw back at c.grid_entry-number.ensures.whole in
    let floor = rw back at c.grid_entry-number.ensures.floor in
    let more = right_more grid c.args.k c.loop-m.m c.gap_of-slack.result (omega arith) (whole ∙ sym c.gap_of-slack.ensures.value) in
    simp to_z-of_z (record {
      value = ap (λ t. t +ℤ c.gap_of-slack.result) value ∙ sym more;
      low = n.low;
      high = n.high;
      lower = written c.loop-m.lower (λ i. floor_over grid_step (at (row_at grid c.args.k) i)) c.loop-m.m c.grid_entry-number.result.0 (omega arith) floor c.loop-m.invariant.lower;
      upper = written c.loop-m.upper (λ i. floor_over grid_step (at (row_at grid c.args.k) i)) c.loop-m.m c.grid_entry-number.result.0 (omega arith) floor c.loop-m.invariant.upper;
    })

pub returns-clause-value : goal.returns-clause-value
returns-clause-value c =
    let room = c.requires.lower_room in
    let lt = c.requires.inside in
    let last : length c.args.lower.now ≡ c.loop-m.m = omega arith in
    rw last c.loop-m.invariant.value

at_most : (z : ℤ) (m n : ℕ) → z ≤ℤ pos (m - 1) → m ≤ n → z ≤ℤ pos n
at_most z m n h k = omega (arith, ints)

pub returns-clause-high : goal.returns-clause-high
returns-clause-high c =
    let room = c.requires.lower_room in
    let lt = c.requires.inside in
    at_most (to_z w128 c.loop-m.slack-bits) c.loop-m.m (length c.args.lower.now) c.loop-m.invariant.high (omega arith)
