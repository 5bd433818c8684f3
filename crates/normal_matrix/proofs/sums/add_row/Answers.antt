use Rattle.std.proofs.Common.{◌≡◌, ℕ, ◌<◌, ◌≤◌, ◌^◌, ℤ, pos, ◌*ℤ◌, length, get_or, arith, w64, FitsSigned, ◌∙◌, ap, subst, refl, ◌∷◌, [], ◌+ℤ◌}
use mir.Syntax.{w128}
use Rattle.std.specs.Prelude.{unsigned_abs}
use Rattle.std.proofs.lemmas.Int.{to_z-of_z, fits_signed_from_abs}
use Rattle.std.proofs.lemmas.List.{take_all}
use Rattle.whole_algebra.specs.Grid.{entry}
use Rattle.whole_algebra.proofs.Normal.{ring, x0, x1, x2, lit, ◌⊕◌, ◌⊗◌}
use Rattle.lent_parts.specs.Triangle.{IsTri, tri_row}
use Rattle.lent_parts.proofs.Triangles.{length-IsTri, length-tri_row, IsTri-slice_set, refilled_whole}
use Rattle.geo_model.specs.Row.{Entries, total_size}
use Rattle.geo_model.proofs.SumSteps.{coefficient_size}
use Rattle.normal_matrix.specs.Entries.{coefficient}
use Rattle.normal_matrix.proofs.RowSteps.{factor_size, line_is_small, row_step}
use Rattle.normal_matrix.proofs.sums.add_row.Goals as goal

record Sized (weight size : ℤ) : Type 0 where
  pub weight_narrow : FitsSigned w64 weight
  pub weight_wide : FitsSigned w128 weight
  pub narrow : FitsSigned w64 size
  pub wide : FitsSigned w128 size
  pub product : FitsSigned w128 (weight *ℤ size)
  pub small : unsigned_abs (weight *ℤ size) ≤ 2 ^ 43

sized : (weight : ℤ) (entries : Entries) (q : ℕ) → unsigned_abs weight ≤ 1000000 → total_size entries < 2 ^ 23 → q < length entries → Sized weight (get_or entries q (0, pos 0)).1
sized weight entries q light total inside =
    let one = coefficient_size entries q (0, pos 0) inside in
    let small = factor_size weight (get_or entries q (0, pos 0)).1 light (omega arith) in record {
      weight_narrow = fits_signed_from_abs w64 weight (omega arith);
      weight_wide = fits_signed_from_abs w128 weight (omega arith);
      narrow = fits_signed_from_abs w64 (get_or entries q (0, pos 0)).1 (omega arith);
      wide = fits_signed_from_abs w128 (get_or entries q (0, pos 0)).1 (omega arith);
      product = fits_signed_from_abs w128 (weight *ℤ (get_or entries q (0, pos 0)).1) (omega arith);
      small = small;
    }

none_added : (z w c : ℤ) → z ≡ z +ℤ w *ℤ (pos 0 *ℤ c)
none_added z w c = ring x0 (x0 ⊕ x1 ⊗ (lit 0 ⊗ x2)) (z ∷ w ∷ c ∷ []) refl

pub loop-column-init : goal.loop-column-init
loop-column-init c =
    let f : FitsSigned w64 c.args.weight = c.ranges.weight in
    simp to_z-of_z
    (record {
      size = refl;
      sum = λ i j le lt. none_added (entry c.args.sums.now i j) c.args.weight (coefficient c.args.entries.now j);
    })

pub row_mut-line-requires : goal.row_mut-line-requires
row_mut-line-requires c =
    let rows = c.loop-column.invariant.size in
    let column = c.requires.columns c.loop-column.column-index (0, pos 0) c.loop-column-test.true in
    omega arith

pub add_products-requires-clause-size : goal.add_products-requires-clause-size
add_products-requires-clause-size c =
    let shape = subst (λ n. IsTri n c.loop-column.sums) c.loop-column.invariant.size c.row_mut-line.ensures.shape in
    let s = sized c.args.weight c.args.entries.now c.loop-column.column-index c.requires.weight c.requires.total c.loop-column-test.true in
    let f = s.weight_narrow in
    rw c.row_mut-line.ensures.value
    (line_is_small (length c.args.sums.now) c.args.sums.now c.loop-column.sums c.args.weight c.args.entries.now c.loop-column.column-index (get_or c.args.entries.now c.loop-column.column-index (0, pos 0)).0
    shape (c.requires.columns c.loop-column.column-index (0, pos 0) c.loop-column-test.true) c.requires.size (simp to_z-of_z at c.loop-column.invariant.sum) c.requires.weight c.requires.total)

pub add_products-requires-clause-columns : goal.add_products-requires-clause-columns
add_products-requires-clause-columns c k d lt =
    let shape = subst (λ n. IsTri n c.loop-column.sums) c.loop-column.invariant.size c.row_mut-line.ensures.shape in
    let column = (get_or c.args.entries.now c.loop-column.column-index (0, pos 0)).0 in
    let below = c.requires.columns c.loop-column.column-index (0, pos 0) c.loop-column-test.true in
    let len = length-tri_row (length c.args.sums.now) c.loop-column.sums column shape below in
    let same = ap length c.row_mut-line.ensures.value in
    let one = c.requires.columns k d lt in
    omega arith

pub add_products-requires-clause-factor : goal.add_products-requires-clause-factor
add_products-requires-clause-factor c =
    let s = sized c.args.weight c.args.entries.now c.loop-column.column-index c.requires.weight c.requires.total c.loop-column-test.true in
    let f = s.weight_narrow in
    let g = s.weight_wide in
    let n = s.narrow in
    let w = s.wide in
    let p = s.product in
    simp to_z-of_z s.small

pub loop-column-preserved : goal.loop-column-preserved
loop-column-preserved c =
    let shape = subst (λ n. IsTri n c.loop-column.sums) c.loop-column.invariant.size c.row_mut-line.ensures.shape in
    let n = length c.args.sums.now in
    let column = (get_or c.args.entries.now c.loop-column.column-index (0, pos 0)).0 in
    let below : column < n = c.requires.columns c.loop-column.column-index (0, pos 0) c.loop-column-test.true in
    let s = sized c.args.weight c.args.entries.now c.loop-column.column-index c.requires.weight c.requires.total c.loop-column-test.true in
    let f = s.weight_narrow in
    let g = s.weight_wide in
    let h = s.narrow in
    let w = s.wide in
    let p = s.product in
    let plain = simp to_z-of_z at c.add_products.ensures in
    let written = rw c.row_mut-line.ensures.value at plain in
    let len : length c.add_products.new.line ≡ length (tri_row c.loop-column.sums column) = c.add_products.auto.line ∙ ap length c.row_mut-line.ensures.value in
    let row = length-tri_row n c.loop-column.sums column shape below in
    let whole = refilled_whole (tri_row c.loop-column.sums column) c.add_products.new.line len in
    rw whole
    (record {
      size = length-IsTri n _ (IsTri-slice_set n c.loop-column.sums column c.add_products.new.line shape (len ∙ row));
      sum = simp to_z-of_z (row_step n c.args.sums.now c.loop-column.sums c.args.weight c.args.entries.now c.loop-column.column-index (0, pos 0) c.add_products.new.line shape c.loop-column-test.true below (simp to_z-of_z at c.loop-column.invariant.sum) written);
    })

pub returns-clause-sum : goal.returns-clause-sum
returns-clause-sum c =
    let f : FitsSigned w64 c.args.weight = c.ranges.weight in
    let plain = simp to_z-of_z at c.loop-column.invariant.sum in
    let all = take_all (c.loop-column.column-index) c.args.entries.now c.loop-column-test.false in
    rw all at plain
