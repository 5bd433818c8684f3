use Rattle.std.proofs.Common.{rules, refl, ◌≡◌, ◌↔◌, ◌<◌, ◌≤◌, ◌^◌, ℤ, ◌*ℤ◌, ◌<ℤ◌, w64, FitsSigned, ap, ap₂, ◌∙◌, arith}
use mir.Syntax.{w128}
use lib.Signed.{lt_z}
use Rattle.std.specs.Prelude.{IsTrue, unsigned_abs}
use Rattle.std.proofs.lemmas.Int.{ints, to_z-of_z, fits_signed_from_abs}
use Rattle.whole_algebra.specs.Matrices.{at}
use Rattle.geo_model.specs.Energy.{energy}
use Rattle.geo_model.specs.Limit.{LimitOf, load}
use Rattle.geo_model.proofs.SizeLemmas.{scaled_energy-small, light}
use Rattle.geo_model.proofs.SumSteps.{limit_of, same_limit}
use Rattle.geo_model.proofs.forms.breaks.Goals as goal

less_true : (a b : ℤ) → IsTrue (lt_z a b) → a <ℤ b
less_true a b h = grind (arith, ints)

true_less : (a b : ℤ) → a <ℤ b → IsTrue (lt_z a b)
true_less a b h = grind (arith, ints)

tested : (a b c d : ℤ) → a ≡ c → b ≡ d → IsTrue (lt_z a b) ↔ (c <ℤ d)
tested a b c d first second = rw first (rw second (less_true c d, true_less c d))

pub returns : goal.returns
returns c l found =
    let alpha_is : c.form.inside.alpha ≡ c.index-limits-limit.result.alpha = ap (λ (v : LimitOf). v.alpha) c.form.view_is in
    let same = same_limit c.args.network.now c.limits-limits.result.now c.args.limit c.index-limits-limit.result l c.limits-limits.ensures.value c.index-limits-limit.is found in
    let bounds = limit_of c.args.network.now c.limits-limits.result.now c.args.limit c.index-limits-limit.result c.index-limits-limit.result.squares c.limits-limits.ensures.bounds c.limits-limits.ensures.value c.requires.limit c.index-limits-limit.is refl in
    let x = at c.args.x.now in
    let kept = c.limits-limits.ensures.bounds in
    let small = scaled_energy-small c.args.network.now c.args.plan.now c.index-limits-limit.result.alpha x kept c.entries-bounds.ensures.narrow bounds.alpha_low bounds.alpha_high in
    let product_is : c.form.inside.alpha *ℤ c.energy.result ≡ c.index-limits-limit.result.alpha *ℤ energy c.args.network.now.candidates c.args.plan.now x = ap₂ (λ s t. s *ℤ t) alpha_is c.energy.ensures.value in
    let size : unsigned_abs (c.form.inside.alpha *ℤ c.energy.result) < 2 ^ 125 = rw product_is small in
    let light_alpha : unsigned_abs c.form.inside.alpha ≤ 1000000 = rw alpha_is (light c.index-limits-limit.result.alpha bounds.alpha_low bounds.alpha_high) in
    let f : FitsSigned w64 c.form.inside.alpha = fits_signed_from_abs w64 c.form.inside.alpha (omega arith) in
    let g : FitsSigned w128 c.form.inside.alpha = fits_signed_from_abs w128 c.form.inside.alpha (omega arith) in
    let h : FitsSigned w128 c.energy.result = search rules in
    let i : FitsSigned w128 (c.form.inside.alpha *ℤ c.energy.result) = fits_signed_from_abs w128 (c.form.inside.alpha *ℤ c.energy.result) (omega arith) in
    let j : FitsSigned w128 c.load.result = search rules in
    simp to_z-of_z
    (tested (c.form.inside.alpha *ℤ c.energy.result) c.load.result (l.alpha *ℤ energy c.args.network.now.candidates c.args.plan.now x) (load l.squares x)
    (product_is ∙ ap (λ (v : LimitOf). v.alpha *ℤ energy c.args.network.now.candidates c.args.plan.now x) same)
    (c.load.ensures.value l found))
