use Rattle.std.proofs.Common.{◌≡◌, ◌*◌, ◌<◌, ◌≤◌, ◌^◌, ap₂, sym, ◌∙◌, subst, arith, rules}
use Rattle.std.specs.Prelude.{ℤ, pos, ◌*ℤ◌, ◌<ℤ◌, unsigned_abs, FitsSigned}
use Rattle.std.specs.Int.{w64, w128, cast_signed, cast_unsigned}
use Rattle.std.proofs.lemmas.Int.{ints, to_z-of_z, to_z_pos}
use Rattle.geo_base.specs.Division.{IsNearest, nearest_of}
use Rattle.geo_base.proofs.Rounding.{nearest_of-IsNearest, IsNearest-unique}
use Rattle.coefficient_round.specs.Coefficient.{radian, coefficient_scale, square_length, direction_coefficient}
use Rattle.coefficient_round.proofs.Bounds.{part-within, direction-size, direction_coefficient-IsNearest}
use Rattle.coefficient_round.proofs.direction.dir_coef.Goals as goal

product_fits : (z : ℤ) → FitsSigned w64 z → FitsSigned w128 (pos (radian * coefficient_scale) *ℤ z)
product_fits z fits = omega (arith, ints)

-- what `nearest` gave, without the casts
plain : (c : goal.After-nearest) → c.nearest.result ≡ nearest_of (pos (radian * coefficient_scale) *ℤ c.args.part) (pos (square_length c.args.dx c.args.dy))
plain c =
    let part = simp (to_z-of_z, c.ranges.part) at c.from.ensures in
    let length = simp (to_z-of_z, c.ranges.dx, c.ranges.dy) at c.length_squared.ensures in
    let part_fits : FitsSigned w128 c.from.result = search rules in
    let product : FitsSigned w128 (pos (radian * coefficient_scale) *ℤ c.from.result) = subst (λ t. FitsSigned w128 (pos (radian * coefficient_scale) *ℤ t)) (sym part) (product_fits c.args.part c.ranges.part) in
    let small : c.length_squared.result < 2 ^ 127 = omega (arith, c.requires.most, length) in
    let wide : cast_signed w128 c.length_squared.result ≡ pos c.length_squared.result = to_z_pos w128 c.length_squared.result small in
    let value = simp (to_z-of_z, part_fits, product, wide) at c.nearest.ensures.value in
    value ∙ ap₂ (λ p s. nearest_of (pos (radian * coefficient_scale) *ℤ p) (pos s)) part length

is_nearest : (c : goal.After-nearest) → IsNearest (pos (radian * coefficient_scale) *ℤ c.args.part) (pos (square_length c.args.dx c.args.dy)) c.nearest.result
is_nearest c =
    let some : pos 0 <ℤ pos (square_length c.args.dx c.args.dy) = omega (arith, ints, c.requires.least) in
    subst (IsNearest (pos (radian * coefficient_scale) *ℤ c.args.part) (pos (square_length c.args.dx c.args.dy))) (sym (plain c)) (nearest_of-IsNearest (pos (radian * coefficient_scale) *ℤ c.args.part) (pos (square_length c.args.dx c.args.dy)) some)

size : (c : goal.After-nearest) → unsigned_abs c.nearest.result ≤ radian
size c = direction-size c.args.part (square_length c.args.dx c.args.dy) c.nearest.result (part-within c.args.part c.args.dx c.args.dy c.requires.of_line) c.requires.least (is_nearest c)

fits_long : (z : ℤ) → unsigned_abs z ≤ radian → FitsSigned w64 z
fits_long z small = omega (arith, ints)

-- the answer, without the casts
answer : (c : goal.After-nearest) → cast_signed w64 (cast_unsigned w64 (cast_signed w128 (cast_unsigned w128 c.nearest.result))) ≡ c.nearest.result
answer c =
    let wide : FitsSigned w128 c.nearest.result = search rules in
    let long : FitsSigned w64 c.nearest.result = fits_long c.nearest.result (size c) in
    simp (to_z-of_z, wide, long)

pub overflow_cast-result : goal.overflow_cast-result
overflow_cast-result c =
    let wide : FitsSigned w128 c.nearest.result = search rules in
    simp (to_z-of_z, wide) (fits_long c.nearest.result (size c))

pub returns-clause-value : goal.returns-clause-value
returns-clause-value c =
    let some : pos 0 <ℤ pos (square_length c.args.dx c.args.dy) = omega (arith, ints, c.requires.least) in
    answer c ∙ IsNearest-unique (pos (radian * coefficient_scale) *ℤ c.args.part) (pos (square_length c.args.dx c.args.dy)) c.nearest.result
    (direction_coefficient c.args.part c.args.dx c.args.dy) some (is_nearest c)
    (direction_coefficient-IsNearest c.args.part c.args.dx c.args.dy c.requires.of_line c.requires.least)

pub returns-clause-nearest : goal.returns-clause-nearest
returns-clause-nearest c = rw (answer c) (is_nearest c)

pub returns-clause-size : goal.returns-clause-size
returns-clause-size c = rw (answer c) (size c)
