use Rattle.std.proofs.Common.{◌≡◌, ℕ, ◌<◌, ◌≤◌, ◌^◌, ℤ, pos, ◌+ℤ◌, length, take, get_or, w64, FitsSigned, to_z, ◌∙◌, sym, ap, arith}
use Rattle.std.specs.Prelude.{unsigned_abs}
use Rattle.std.proofs.lemmas.Int.{to_z-of_z, fits_signed_from_abs}
use Rattle.geo_model.specs.Row.{Entries, total_size}
use Rattle.geo_model.proofs.SumSteps.{coefficient_size}
use Rattle.normal_matrix.specs.Entries.{coefficient}
use Rattle.whole_algebra.proofs.Order.{size-add}
use Rattle.normal_matrix.proofs.SumSteps.{coefficient-take-size, coefficient-more_here, coefficient-more_elsewhere}
use Rattle.limit_forms.proofs.form.coefficient_at.Goals as goal
use Rattle.limit_forms.proofs.form.coefficient_at.Goals.{then-place-column, else-place-column}

record IsStep (so_far part : ℤ) : Type 0 where
  pub size : FitsSigned w64 part
  pub sum : FitsSigned w64 (so_far +ℤ part)

step : (sum : ℤ) (entries : Entries) (q i : ℕ) → sum ≡ coefficient (take q entries) i → total_size entries < 2 ^ 45 → q < length entries → IsStep sum (get_or entries q (0, pos 0)).1
step sum entries q i is total inside =
    let so_far = coefficient-take-size entries q i in
    let mine : unsigned_abs sum ≤ total_size entries = rw is so_far in
    let one = coefficient_size entries q (0, pos 0) inside in
    let both = size-add sum (get_or entries q (0, pos 0)).1 in record {
      size = fits_signed_from_abs w64 (get_or entries q (0, pos 0)).1 (omega arith);
      sum = fits_signed_from_abs w64 (sum +ℤ (get_or entries q (0, pos 0)).1) (omega arith);
    }

pub overflow_add-sum : goal.overflow_add-sum
overflow_add-sum c =
    let s = step (to_z w64 c.loop-place.sum-bits) c.args.entries.now c.loop-place.place-index c.args.column c.loop-place.invariant c.requires c.loop-place-test.true in
    let f = s.size in
    simp to_z-of_z s.sum

pub loop-place-preserved : goal.loop-place-preserved
loop-place-preserved c =
    let entry = get_or c.args.entries.now c.loop-place.place-index (0, pos 0) in
    let s = step (to_z w64 c.loop-place.sum-bits) c.args.entries.now c.loop-place.place-index c.args.column c.loop-place.invariant c.requires c.loop-place-test.true in
    let f = s.size in
    let g = s.sum in
    elim c.if-place-column.branch [
      | then-place-column w ↦
          let here = coefficient-more_here c.args.entries.now c.loop-place.place-index c.args.column (0, pos 0) c.loop-place-test.true w.if-place-column.true in
          let is = simp to_z-of_z at w.sum-is in
          is ∙ ap (λ t. t +ℤ entry.1) c.loop-place.invariant ∙ sym here
      | else-place-column w ↦
          let elsewhere = coefficient-more_elsewhere c.args.entries.now c.loop-place.place-index c.args.column (0, pos 0) c.loop-place-test.true w.if-place-column.false in
          w.sum-is ∙ c.loop-place.invariant ∙ sym elsewhere
    ]

pub returns-clause-size : goal.returns-clause-size
returns-clause-size c =
    let so_far = coefficient-take-size c.args.entries.now c.loop-place.place-index c.args.column in
    rw c.loop-place.invariant so_far
