use Rattle.std.proofs.Common.{◌≡◌, ℕ, ◌≤◌, ◌^◌, ℤ, ◌*ℤ◌, w64, FitsSigned, ◌∙◌, ap, ap₂, arith}
use mir.Syntax.{w128}
use Rattle.std.specs.Prelude.{unsigned_abs}
use Rattle.std.proofs.lemmas.Int.{to_z-of_z, fits_signed_from_abs}
use Rattle.geo_model.specs.Row.{RowOf, IsRow, Entries}
use Rattle.geo_model.proofs.SizeLemmas.{light}
use Rattle.normal_matrix.specs.Entries.{coefficient, row_entry}
use Rattle.whole_algebra.proofs.Order.{size-mul}
use Rattle.normal_matrix.proofs.SumSteps.{coefficient-size}
use Rattle.normal_matrix.proofs.RowSteps.{row_entry-size}
use Rattle.limit_forms.proofs.exponents.row_diagonal.Goals as goal

record IsStep (row : RowOf) (i : ℕ) (part weight : ℤ) : Type 0 where
  pub narrow : FitsSigned w64 part
  pub wide : FitsSigned w128 part
  pub weight_narrow : FitsSigned w64 weight
  pub weight_wide : FitsSigned w128 weight
  pub square : FitsSigned w128 (part *ℤ part)
  pub is : weight *ℤ (part *ℤ part) ≡ row_entry row i i
  pub size : unsigned_abs (weight *ℤ (part *ℤ part)) ≤ 2 ^ 66
  pub whole : FitsSigned w128 (weight *ℤ (part *ℤ part))

step : (row : RowOf) (i : ℕ) (entries : Entries) (part weight : ℤ) → IsRow row → entries ≡ row.entries → part ≡ coefficient entries i → weight ≡ row.weight → IsStep row i part weight
step row i entries part weight bounds listed is heavy =
    let part_is : part ≡ coefficient row.entries i = is ∙ ap (λ (l : Entries). coefficient l i) listed in
    let size : unsigned_abs part ≤ 2 ^ 23 = rw part_is (let h = coefficient-size row.entries i in let t = bounds.total in omega arith) in
    let small : unsigned_abs weight ≤ 1000000 = rw heavy (light row.weight bounds.weight_low bounds.weight_high) in
    let square = size-mul part part (2 ^ 23) (2 ^ 23) size size in
    let same : weight *ℤ (part *ℤ part) ≡ row_entry row i i = ap₂ (λ s t. s *ℤ t) heavy (ap₂ (λ s t. s *ℤ t) part_is part_is) in
    let whole : unsigned_abs (weight *ℤ (part *ℤ part)) ≤ 2 ^ 66 = rw same (let h = row_entry-size row i i bounds in omega arith) in
    record {
      narrow = fits_signed_from_abs w64 part (omega arith);
      wide = fits_signed_from_abs w128 part (omega arith);
      weight_narrow = fits_signed_from_abs w64 weight (omega arith);
      weight_wide = fits_signed_from_abs w128 weight (omega arith);
      square = fits_signed_from_abs w128 (part *ℤ part) (omega arith);
      is = same;
      size = whole;
      whole = fits_signed_from_abs w128 (weight *ℤ (part *ℤ part)) (omega arith);
    }

pub overflow_mul-result-2 : goal.overflow_mul-result-2
overflow_mul-result-2 c =
    let s = step c.args.row.now c.args.unknown c.entries.result.now c.coefficient_at-size.result c.weight.result c.requires c.entries.ensures c.coefficient_at-size.ensures.value c.weight.ensures in
    let a = s.narrow in
    let b = s.wide in
    let d = s.weight_narrow in
    let e = s.weight_wide in
    let f = s.square in
    let g = s.whole in
    simp to_z-of_z s.whole

pub returns-clause-value : goal.returns-clause-value
returns-clause-value c =
    let s = step c.args.row.now c.args.unknown c.entries.result.now c.coefficient_at-size.result c.weight.result c.requires c.entries.ensures c.coefficient_at-size.ensures.value c.weight.ensures in
    let a = s.narrow in
    let b = s.wide in
    let d = s.weight_narrow in
    let e = s.weight_wide in
    let f = s.square in
    let g = s.whole in
    simp to_z-of_z s.is

pub returns-clause-size : goal.returns-clause-size
returns-clause-size c =
    let s = step c.args.row.now c.args.unknown c.entries.result.now c.coefficient_at-size.result c.weight.result c.requires c.entries.ensures c.coefficient_at-size.ensures.value c.weight.ensures in
    let a = s.narrow in
    let b = s.wide in
    let d = s.weight_narrow in
    let e = s.weight_wide in
    let f = s.square in
    let g = s.whole in
    simp to_z-of_z s.size
