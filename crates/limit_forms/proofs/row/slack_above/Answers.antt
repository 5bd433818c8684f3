use Rattle.std.proofs.Common.{ℕ, ◌+◌, ◌<◌, ◌^◌, ℤ, pos, ◌+ℤ◌, ◌≤ℤ◌, FitsSigned, to_z, ◌∙◌, sym, ap, arith}
use mir.Syntax.{w128}
use Rattle.std.proofs.lemmas.Int.{ints, to_z-of_z, fits_signed_from_abs}
use Rattle.limit_forms.specs.Grid.{on_grid}
use Rattle.limit_forms.proofs.Rows.{above_more}
use Rattle.limit_forms.proofs.row.slack_above.Goals as goal

record IsCount (slack gap : ℤ) (k : ℕ) : Type 0 where
  pub low : pos 0 ≤ℤ (slack +ℤ gap)
  pub high : (slack +ℤ gap) ≤ℤ pos (k + 1)
  pub narrow : FitsSigned w128 gap
  pub fits : FitsSigned w128 (slack +ℤ gap)

count : (slack gap : ℤ) (k : ℕ) → k < 2 ^ 32 → pos 0 ≤ℤ slack → slack ≤ℤ pos k → pos 0 ≤ℤ gap → gap ≤ℤ pos 1 → IsCount slack gap k
count slack gap k small low high none one = record {
  low = omega (arith, ints);
  high = omega (arith, ints);
  narrow = fits_signed_from_abs w128 gap (omega (arith, ints));
  fits = fits_signed_from_abs w128 (slack +ℤ gap) (omega (arith, ints));
}

below_all : (row k : ℕ) → row < k → k < 2 ^ 32 → row < 2 ^ 32
below_all row k lt small = omega arith

pub loop-row-preserved : goal.loop-row-preserved
loop-row-preserved c =
    let slack = to_z w128 c.loop-row.slack-bits in
    let small : c.loop-row.row < 2 ^ 32 = below_all c.loop-row.row c.args.k c.loop-row-test.true (c.ranges.k.fits) in
    let n = count slack c.gap_of-slack.result c.loop-row.row small c.loop-row.invariant.low c.loop-row.invariant.high c.gap_of-slack.ensures.low c.gap_of-slack.ensures.high in
    let e = n.narrow in
    let f = n.fits in
    let value = c.loop-row.invariant.value in
    let whole = c.grid_entry-number.ensures.whole in
    let more = above_more (on_grid c.args.form.now.network.now c.args.form.now.normal.now.plan c.args.form.now.alpha c.args.form.now.squares.now) c.args.k c.loop-row.row c.gap_of-slack.result (whole ∙ sym c.gap_of-slack.ensures.value) in
    simp to_z-of_z (record { value = ap (λ t. t +ℤ c.gap_of-slack.result) value ∙ sym more; low = n.low; high = n.high })
