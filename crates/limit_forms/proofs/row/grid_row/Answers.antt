use Rattle.std.proofs.Common.{◌≡◌, ℕ, ◌+◌, ◌-◌, ◌<◌, ◌≤◌, ◌^◌, ℤ, pos, ◌+ℤ◌, ◌-ℤ◌, ◌≤ℤ◌, Bool, true, false, if◌then◌else◌, length, w64, FitsSigned, ◌∙◌, sym, arith}
use mir.Syntax.{w128}
use Rattle.std.specs.Prelude.{unsigned_abs}
use Rattle.std.proofs.lemmas.Int.{ints, to_z-of_z, fits_signed_from_abs}
use Rattle.limit_forms.specs.Grid.{on_grid}
use Rattle.limit_forms.proofs.GridEntries.{on_grid-triangle}
use Rattle.limit_forms.proofs.Rows.{slack_of_row, lower_row, upper_row}
use Rattle.limit_forms.proofs.row.grid_row.Goals as goal

-- the numbers of the diagonal
record IsHead (number gap left right : ℤ) : Type 0 where
  pub number_fits : FitsSigned w128 number
  pub gap_fits : FitsSigned w128 gap
  pub left_fits : FitsSigned w128 left
  pub right_fits : FitsSigned w128 right
  pub slack_fits : FitsSigned w128 (left +ℤ right)
  pub lower_fits : FitsSigned w128 (number -ℤ (left +ℤ right))
  pub middle_fits : FitsSigned w128 (number +ℤ gap)
  pub upper_fits : FitsSigned w128 ((number +ℤ gap) +ℤ (left +ℤ right))

head : (number gap left right : ℤ) (k len : ℕ) → unsigned_abs number < 2 ^ 109 → pos 0 ≤ℤ gap → gap ≤ℤ pos 1 → pos 0 ≤ℤ left → left ≤ℤ pos k → pos 0 ≤ℤ right → right ≤ℤ pos len
    → k ≤ 64 → len ≤ 64 → IsHead number gap left right
head number gap left right k len size g0 g1 l0 l1 r0 r1 few short = record {
  number_fits = fits_signed_from_abs w128 number (omega (arith, ints));
  gap_fits = fits_signed_from_abs w128 gap (omega (arith, ints));
  left_fits = fits_signed_from_abs w128 left (omega (arith, ints));
  right_fits = fits_signed_from_abs w128 right (omega (arith, ints));
  slack_fits = fits_signed_from_abs w128 (left +ℤ right) (omega (arith, ints));
  lower_fits = fits_signed_from_abs w128 (number -ℤ (left +ℤ right)) (omega (arith, ints));
  middle_fits = fits_signed_from_abs w128 (number +ℤ gap) (omega (arith, ints));
  upper_fits = fits_signed_from_abs w128 ((number +ℤ gap) +ℤ (left +ℤ right)) (omega (arith, ints));
}

no_way : (k : ℕ) → k - k ≡ 0
no_way k = omega arith

gap_range : (whole : Bool) → (pos 0 ≤ℤ (if whole then pos 0 else pos 1)) × ((if whole then pos 0 else pos 1) ≤ℤ pos 1)
gap_range true = (omega (arith, ints), omega (arith, ints))
gap_range false = (omega (arith, ints), omega (arith, ints))

pub returns-clause-lower : goal.returns-clause-lower
returns-clause-lower c =
    let a : FitsSigned w64 c.args.alpha = c.ranges.alpha in
    let n = length c.args.network.now.unknowns in
    let grid = on_grid c.args.network.now c.args.normal.now.plan c.args.alpha c.args.squares.now in
    let few = c.candidates-bounds.ensures.bounds.unknowns in
    let inside = c.requires.inside in
    let room = c.requires.lower_room in
    let whole = rw (no_way c.args.k) at (simp to_z-of_z at c.grid_entry-number.ensures.whole) in
    let floor = rw (no_way c.args.k) at (simp to_z-of_z at c.grid_entry-number.ensures.floor) in
    let left = simp to_z-of_z at c.slack_above-left.ensures.value in
    let right = simp to_z-of_z at c.write_right-right.ensures.value in
    let loose = slack_of_row n grid c.args.k (length c.args.lower.now) c.slack_above-left.result c.write_right-right.result (on_grid-triangle c.args.network.now c.args.normal.now.plan c.args.alpha c.args.squares.now) inside room left right in
    let gap = gap_range c.grid_entry-number.result.1 in
    let h = head c.grid_entry-number.result.0 (if c.grid_entry-number.result.1 then pos 0 else pos 1) c.slack_above-left.result c.write_right-right.result c.args.k (length c.args.lower.now) c.grid_entry-number.ensures.size gap.0 gap.1 c.slack_above-left.ensures.low c.slack_above-left.ensures.high c.write_right-right.ensures.low c.write_right-right.ensures.high (omega arith) (omega arith) in
    let f1 = h.number_fits in
    let f3 = h.left_fits in
    let f4 = h.right_fits in
    let f5 = h.slack_fits in
    let f6 = h.lower_fits in
    let long : length c.write_right-right.new.lower + c.args.k ≡ n = let same = c.write_right-right.auto.lower in omega arith in
    let same = c.write_right-right.auto.lower in
    let beyond = simp to_z-of_z at c.write_right-right.ensures.lower in
    simp to_z-of_z (lower_row c.args.network.now c.args.normal.now.plan c.args.alpha c.args.squares.now c.args.k c.write_right-right.new.lower c.grid_entry-number.result.0 (c.slack_above-left.result +ℤ c.write_right-right.result) inside long floor loose
    (λ i one lt. beyond i one (omega arith)))

pub returns-clause-upper : goal.returns-clause-upper
returns-clause-upper c =
    let a : FitsSigned w64 c.args.alpha = c.ranges.alpha in
    let n = length c.args.network.now.unknowns in
    let grid = on_grid c.args.network.now c.args.normal.now.plan c.args.alpha c.args.squares.now in
    let few = c.candidates-bounds.ensures.bounds.unknowns in
    let inside = c.requires.inside in
    let room = c.requires.lower_room in
    let whole = rw (no_way c.args.k) at (simp to_z-of_z at c.grid_entry-number.ensures.whole) in
    let floor = rw (no_way c.args.k) at (simp to_z-of_z at c.grid_entry-number.ensures.floor) in
    let left = simp to_z-of_z at c.slack_above-left.ensures.value in
    let right = simp to_z-of_z at c.write_right-right.ensures.value in
    let loose = slack_of_row n grid c.args.k (length c.args.lower.now) c.slack_above-left.result c.write_right-right.result (on_grid-triangle c.args.network.now c.args.normal.now.plan c.args.alpha c.args.squares.now) inside room left right in
    let h = head c.grid_entry-number.result.0 c.gap_of.result c.slack_above-left.result c.write_right-right.result c.args.k (length c.args.lower.now) c.grid_entry-number.ensures.size c.gap_of.ensures.low c.gap_of.ensures.high c.slack_above-left.ensures.low c.slack_above-left.ensures.high c.write_right-right.ensures.low c.write_right-right.ensures.high (omega arith) (omega arith) in
    let f1 = h.number_fits in
    let f2 = h.gap_fits in
    let f3 = h.left_fits in
    let f4 = h.right_fits in
    let f5 = h.slack_fits in
    let f6 = h.middle_fits in
    let f7 = h.upper_fits in
    let upper_room = c.requires.upper_room in
    let same = c.write_right-right.auto.upper in
    let long : length c.write_right-right.new.upper + c.args.k ≡ n = omega arith in
    let beyond = simp to_z-of_z at c.write_right-right.ensures.upper in
    simp to_z-of_z (upper_row c.args.network.now c.args.normal.now.plan c.args.alpha c.args.squares.now c.args.k c.write_right-right.new.upper c.grid_entry-number.result.0 c.gap_of.result (c.slack_above-left.result +ℤ c.write_right-right.result) inside long floor (whole ∙ sym c.gap_of.ensures.value) loose
    (λ i one lt. beyond i one (omega arith)))
