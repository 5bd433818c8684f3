use Rattle.std.specs.Prelude.{FitsSigned, ℤ, pos, ◌*ℤ◌, ◌≡◌, ◌≤ℤ◌, ◌<ℤ◌, ◌<◌, ◌*◌, ◌^◌, unsigned_abs, ℕ}
use Rattle.std.specs.Int.{w128, int_rem_euclid}
use Rattle.std.proofs.lemmas.Int.{to_z-of_z, fits_signed_from_abs, unsigned_abs-mul}
use Rattle.std.proofs.Common.{rules, arith, ap, sym, ◌∙◌}
use Rattle.geo_base.specs.Division.{floor_of}
use Rattle.geo_base.proofs.Powers.{shift_of-negative, shift_of-not_negative, remainder_tells, shift_of-IsShifted}
use Rattle.geo_base.proofs.grid.shift_floor.Goals as goal

-- the product that stands for a shift to the left fits
product_fits : (n : ℤ) (k : ℕ) → unsigned_abs n * 2 ^ k < 2 ^ 126 → FitsSigned w128 (n *ℤ pos (2 ^ k))
product_fits n k small = fits_signed_from_abs w128 (n *ℤ pos (2 ^ k)) (omega (arith, unsigned_abs-mul n (pos (2 ^ k))))

pub returns-then-e-lt0-clause-value : goal.returns-then-e-lt0-clause-value
returns-then-e-lt0-clause-value c =
    let below : c.args.e <ℤ pos 0 = search rules in
    let steps = simp (to_z-of_z, c.ranges.e) at c.unsigned_abs.ensures.value in
    let power_fits : FitsSigned w128 c.power.result = search rules in
    let power : c.power.result ≡ pos (2 ^ unsigned_abs c.args.e) = c.power.ensures ∙ ap (λ t. pos (2 ^ t)) steps in
    let fits = product_fits c.args.n (unsigned_abs c.args.e) (c.requires.size below) in
    simp (to_z-of_z, c.ranges.n, power_fits) (rw power (simp (to_z-of_z, fits) (sym (shift_of-negative c.args.n c.args.e below))))

pub returns-else-e-lt0-clause-value : goal.returns-else-e-lt0-clause-value
unfolding floor_of
returns-else-e-lt0-clause-value c =
    let low : pos 0 ≤ℤ c.args.e = search rules in
    let power_fits : FitsSigned w128 c.power-d.result = search rules in
    let fits : FitsSigned w128 c.div_euclid.result = search rules in
    let power = simp (to_z-of_z, c.ranges.e) at c.power-d.ensures in
    let value = simp (to_z-of_z, c.ranges.n, power_fits) at c.div_euclid.ensures in
    simp (to_z-of_z, fits) (value ∙ ap (floor_of c.args.n) power ∙ sym (shift_of-not_negative c.args.n c.args.e low))

pub returns-else-e-lt0-clause-whole : goal.returns-else-e-lt0-clause-whole
returns-else-e-lt0-clause-whole c =
    let low : pos 0 ≤ℤ c.args.e = search rules in
    let power_fits : FitsSigned w128 c.power-d.result = search rules in
    let power = simp (to_z-of_z, c.ranges.e) at c.power-d.ensures in
    let value = simp (to_z-of_z, c.ranges.n, power_fits) at c.rem_euclid.ensures.value in
    remainder_tells c.args.n c.args.e c.rem_euclid.result low (value ∙ ap (int_rem_euclid c.args.n) power)

pub returns-then-e-lt0-clause-shifted : goal.returns-then-e-lt0-clause-shifted
returns-then-e-lt0-clause-shifted c = rw (returns-then-e-lt0-clause-value c) (shift_of-IsShifted c.args.n c.args.e)

pub returns-else-e-lt0-clause-shifted : goal.returns-else-e-lt0-clause-shifted
returns-else-e-lt0-clause-shifted c = rw (returns-else-e-lt0-clause-value c) (shift_of-IsShifted c.args.n c.args.e)
