use Rattle.std.proofs.Common.{◌≡◌, ℕ, ◌*◌, ◌≤◌, ◌^◌, sym, ◌∙◌, subst, arith, rules}
use Rattle.std.specs.Prelude.{ℤ, pos, ◌<ℤ◌, FitsSigned}
use Rattle.std.specs.Int.{w64, w128, cast_signed, cast_unsigned}
use Rattle.std.proofs.lemmas.Int.{ints, to_z-of_z}
use Rattle.std.proofs.lemmas.Nat.{mul-le}
use Rattle.geo_base.specs.Division.{IsNearest, nearest_of}
use Rattle.geo_base.proofs.Rounding.{nearest_of-IsNearest, IsNearest-unique}
use Rattle.coefficient_round.specs.Coefficient.{square, weight_for}
use Rattle.coefficient_round.proofs.Bounds.{IsWeightSize, weight-size, weight_for-IsNearest}
use Rattle.coefficient_round.proofs.weight.weight_of.Goals as goal

square_bounds : (u : ℕ) → 10 ≤ u → u ≤ 10000 → (100 ≤ u * u) × (u * u ≤ 100000000)
square_bounds u least most = (mul-le 10 10 u u least least, mul-le u u 10000 10000 most most)

square_fits : (u : ℕ) → 10 ≤ u → u ≤ 10000 → FitsSigned w128 (pos (u * u))
square_fits u least most = let bounds = square_bounds u least most in omega (arith, ints, bounds.1)

number_fits : (u : ℕ) → u ≤ 10000 → FitsSigned w128 (pos u)
number_fits u most = omega (arith, ints)

-- what `nearest` gave, without the casts
plain : (c : goal.After-nearest) → c.nearest.result ≡ nearest_of (pos (10 ^ 8)) (pos (square c.args.u))
plain c =
    let number = number_fits c.args.u c.requires.most in
    let product = square_fits c.args.u c.requires.least c.requires.most in
    simp (c.from.ensures, c.from-2.ensures, to_z-of_z, number, product) at c.nearest.ensures.value

is_nearest : (c : goal.After-nearest) → IsNearest (pos (10 ^ 8)) (pos (square c.args.u)) c.nearest.result
is_nearest c =
    let bounds = square_bounds c.args.u c.requires.least c.requires.most in
    let some : pos 0 <ℤ pos (square c.args.u) = omega (arith, ints, bounds.0) in
    subst (IsNearest (pos (10 ^ 8)) (pos (square c.args.u))) (sym (plain c)) (nearest_of-IsNearest (pos (10 ^ 8)) (pos (square c.args.u)) some)

size : (c : goal.After-nearest) → IsWeightSize c.nearest.result
size c = weight-size c.args.u c.nearest.result c.requires.least c.requires.most (is_nearest c)

fits_long : (z : ℤ) → IsWeightSize z → FitsSigned w64 z
fits_long z small = omega (arith, ints, small.least, small.most)

-- the answer, without the casts
answer : (c : goal.After-nearest) → cast_signed w64 (cast_unsigned w64 (cast_signed w128 (cast_unsigned w128 c.nearest.result))) ≡ c.nearest.result
answer c =
    let wide : FitsSigned w128 c.nearest.result = search rules in
    let long : FitsSigned w64 c.nearest.result = fits_long c.nearest.result (size c) in
    simp (to_z-of_z, wide, long)

pub overflow_cast-result : goal.overflow_cast-result
overflow_cast-result c =
    let wide : FitsSigned w128 c.nearest.result = search rules in
    simp (to_z-of_z, wide) (fits_long c.nearest.result (size c))

pub returns-clause-value : goal.returns-clause-value
returns-clause-value c =
    let bounds = square_bounds c.args.u c.requires.least c.requires.most in
    let some : pos 0 <ℤ pos (square c.args.u) = omega (arith, ints, bounds.0) in
    answer c ∙ IsNearest-unique (pos (10 ^ 8)) (pos (square c.args.u)) c.nearest.result (weight_for c.args.u) some (is_nearest c) (weight_for-IsNearest c.args.u c.requires.least)

pub returns-clause-nearest : goal.returns-clause-nearest
returns-clause-nearest c = rw (answer c) (is_nearest c)

pub returns-clause-least : goal.returns-clause-least
returns-clause-least c = rw (answer c) (size c).least

pub returns-clause-most : goal.returns-clause-most
returns-clause-most c = rw (answer c) (size c).most
