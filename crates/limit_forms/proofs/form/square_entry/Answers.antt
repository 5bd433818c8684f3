use Rattle.std.proofs.Common.{rules, ◌≡◌, ◌*◌, ◌<◌, ◌≤◌, ◌^◌, ℤ, pos, ◌+ℤ◌, ◌*ℤ◌, ◌≤ℤ◌, FitsSigned, ◌∙◌, sym, ap, ap₂, subst, arith}
use mir.Syntax.{w128}
use Rattle.std.specs.Prelude.{unsigned_abs}
use Rattle.std.proofs.lemmas.Int.{ints, to_z-of_z}
use Rattle.geo_model.specs.Row.{Entries, total_size}
use Rattle.geo_model.specs.Limit.{SquareOf}
use Rattle.normal_matrix.specs.Entries.{coefficient}
use Rattle.limit_forms.proofs.FormSteps.{IsProduct, weighted_product}
use Rattle.limit_forms.proofs.form.square_entry.Goals as goal

-- the numbers of a square, as the code reads them
product : (square : SquareOf) (beta f s : ℤ) (entries : Entries) → beta ≡ square.beta → entries ≡ square.entries → pos 1 ≤ℤ square.beta → unsigned_abs square.beta * total_size square.entries ^ 2 < 2 ^ 90
    → unsigned_abs f ≤ total_size entries → unsigned_abs s ≤ total_size entries → IsProduct beta f s (total_size square.entries)
product square beta f s entries e same one small first second =
    let total : total_size entries ≡ total_size square.entries = ap total_size same in
    subst (λ b. IsProduct b f s (total_size square.entries)) (sym e)
    (weighted_product square.beta f s (total_size square.entries) one (subst (λ t. unsigned_abs f ≤ t) total first) (subst (λ t. unsigned_abs s ≤ t) total second) small)

pub overflow_mul-result-2 : goal.overflow_mul-result-2
overflow_mul-result-2 c =
    let beta = ap (λ (v : SquareOf). v.beta) c.square.view_is in
    let entries = c.as_slice-entries.ensures.value ∙ ap (λ (v : SquareOf). v.entries) c.square.view_is in
    let p = product c.args.square.now c.square.inside.beta c.coefficient_at-first.result c.coefficient_at-second.result c.as_slice-entries.result.now beta entries c.requires.low c.requires.total c.coefficient_at-first.ensures.size c.coefficient_at-second.ensures.size in
    let a = p.first_narrow in
    let b = p.second_narrow in
    let d = p.first in
    let e = p.second in
    let f = p.pair in
    let w : FitsSigned w128 c.square.inside.beta = search rules in
    simp to_z-of_z p.whole

pub returns-clause-value : goal.returns-clause-value
returns-clause-value c =
    let beta = ap (λ (v : SquareOf). v.beta) c.square.view_is in
    let entries = c.as_slice-entries.ensures.value ∙ ap (λ (v : SquareOf). v.entries) c.square.view_is in
    let p = product c.args.square.now c.square.inside.beta c.coefficient_at-first.result c.coefficient_at-second.result c.as_slice-entries.result.now beta entries c.requires.low c.requires.total c.coefficient_at-first.ensures.size c.coefficient_at-second.ensures.size in
    let a = p.first_narrow in
    let b = p.second_narrow in
    let d = p.first in
    let e = p.second in
    let f = p.pair in
    let g = p.whole in
    let w : FitsSigned w128 c.square.inside.beta = search rules in
    let first = c.coefficient_at-first.ensures.value ∙ ap (λ (l : Entries). coefficient l c.args.i) entries in
    let second = c.coefficient_at-second.ensures.value ∙ ap (λ (l : Entries). coefficient l c.args.j) entries in
    simp to_z-of_z (with_none (c.square.inside.beta *ℤ (c.coefficient_at-first.result *ℤ c.coefficient_at-second.result)) (c.args.square.now.beta *ℤ (coefficient c.args.square.now.entries c.args.i *ℤ coefficient c.args.square.now.entries c.args.j)) (ap₂ (λ s t. s *ℤ t) beta (ap₂ (λ s t. s *ℤ t) first second)))
  where
    with_none : (a b : ℤ) → a ≡ b → a ≡ b +ℤ pos 0
    with_none a b e = omega (arith, ints)

pub returns-clause-size : goal.returns-clause-size
returns-clause-size c =
    let beta = ap (λ (v : SquareOf). v.beta) c.square.view_is in
    let entries = c.as_slice-entries.ensures.value ∙ ap (λ (v : SquareOf). v.entries) c.square.view_is in
    let p = product c.args.square.now c.square.inside.beta c.coefficient_at-first.result c.coefficient_at-second.result c.as_slice-entries.result.now beta entries c.requires.low c.requires.total c.coefficient_at-first.ensures.size c.coefficient_at-second.ensures.size in
    let a = p.first_narrow in
    let b = p.second_narrow in
    let d = p.first in
    let e = p.second in
    let f = p.pair in
    let g = p.whole in
    let w : FitsSigned w128 c.square.inside.beta = search rules in
    simp to_z-of_z (subst (λ z. unsigned_abs (c.square.inside.beta *ℤ (c.coefficient_at-first.result *ℤ c.coefficient_at-second.result)) ≤ unsigned_abs z * total_size c.args.square.now.entries ^ 2) beta p.size)
