use Rattle.std.specs.Prelude.{FitsSigned, ℤ, pos, ◌-ℤ◌, ◌≡◌, ◌≤ℤ◌, ◌<ℤ◌, ◌/◌, ◌-◌, ◌<◌, ◌^◌, unsigned_abs, negsuc, ℕ, zero, suc}
use Rattle.std.specs.Int.{w32, w128, leading_zeros, cast_unsigned, cast_signed}
use Rattle.std.proofs.lemmas.Int.{to_z-of_z, to_z_pos, ints}
use Rattle.std.proofs.Common.{arith, ap, sym, ◌∙◌, refl}
use Rattle.geo_base.specs.Grid.{exponent_of}
use Rattle.geo_base.proofs.Powers.{exponent_of-zero, exponent_of-positive, exponent_of-IsExponent, exponent_of-range}
use Rattle.geo_base.proofs.grid.grid_exponent.Goals as goal

-- a number that is not negative is its own bits, and 0 bits are 0
bits_are : (v : ℤ) → pos 0 ≤ℤ v → cast_unsigned w128 v ≡ unsigned_abs v
bits_are (pos n) low = refl
bits_are (negsuc n) low = absurd (omega (arith, ints))

no_bits : (v : ℤ) → pos 0 ≤ℤ v → cast_unsigned w128 v ≡ 0 → v ≡ pos 0
no_bits (pos n) low none = ap pos none
no_bits (negsuc n) low none = absurd (omega (arith, ints))

some_bits : (v : ℤ) → pos 0 ≤ℤ v → (cast_unsigned w128 v ≡ 0 → ⊥) → pos 0 <ℤ v
some_bits (pos zero) low some = absurd (some refl)
some_bits (pos (suc n)) low some = omega (arith, ints)
some_bits (negsuc n) low some = absurd (omega (arith, ints))

-- what the code computes with 32 bits
computed : (z : ℕ) → cast_signed w32 (cast_unsigned w32 (cast_signed w32 ((129 - z) / 2) -ℤ pos 30)) ≡ pos ((129 - z) / 2) -ℤ pos 30
computed z =
    let small : (129 - z) / 2 < 2 ^ 31 = omega arith in
    let wide : cast_signed w32 ((129 - z) / 2) ≡ pos ((129 - z) / 2) = to_z_pos w32 _ small in
    let fits : FitsSigned w32 (pos ((129 - z) / 2) -ℤ pos 30) = omega (arith, ints) in
    ap (λ t. cast_signed w32 (cast_unsigned w32 (t -ℤ pos 30))) wide ∙ to_z-of_z w32 _ fits

pub returns-then-v-eq0-clause-value : goal.returns-then-v-eq0-clause-value
returns-then-v-eq0-clause-value c = sym (ap exponent_of (no_bits c.args.v c.requires.low c.if-v-eq0.true) ∙ exponent_of-zero)

pub returns-clause-value : goal.returns-clause-value
returns-clause-value c =
    let some : pos 0 <ℤ c.args.v = some_bits c.args.v c.requires.low c.if-v-eq0.false in
    let zeros = simp (to_z-of_z, c.ranges.v) at c.leading_zeros.ensures in
    let same : c.leading_zeros.result ≡ leading_zeros w128 (unsigned_abs c.args.v) = zeros ∙ ap (leading_zeros w128) (bits_are c.args.v c.requires.low) in
    computed c.leading_zeros.result ∙ ap (λ t. pos ((129 - t) / 2) -ℤ pos 30) same ∙ sym (exponent_of-positive c.args.v some)

pub returns-clause-exponent : goal.returns-clause-exponent
returns-clause-exponent c some =
    let below : c.args.v <ℤ pos (2 ^ 128) = omega (arith, ints, c.requires.high) in
    rw (returns-clause-value c) (exponent_of-IsExponent c.args.v some below)

pub returns-clause-least : goal.returns-clause-least
returns-clause-least c = rw (returns-clause-value c) (exponent_of-range c.args.v c.requires.low c.requires.high).0

pub returns-clause-most : goal.returns-clause-most
returns-clause-most c = rw (returns-clause-value c) (exponent_of-range c.args.v c.requires.low c.requires.high).1
