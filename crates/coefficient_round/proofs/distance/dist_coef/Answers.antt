use Rattle.std.proofs.Common.{◌≡◌, ℕ, ◌+◌, ◌*◌, ◌<◌, ◌≤◌, ◌^◌, ap, ap₂, sym, ◌∙◌, subst, arith, rules}
use Rattle.std.specs.Prelude.{ℤ, pos, neg_ℤ, ◌-ℤ◌, ◌<ℤ◌, ◌≤ℤ◌, unsigned_abs, FitsSigned}
use Rattle.std.specs.Int.{w64, cast_signed, cast_unsigned}
use Rattle.std.proofs.lemmas.Int.{ints, to_z-of_z, to_z_pos}
use Rattle.coefficient_round.specs.Coefficient.{coefficient_scale, square, square_length, ReachesCoefficient, IsDistanceCoefficient, greatest_reached, with_sign_of, distance_coefficient}
use Rattle.coefficient_round.proofs.Bounds.{part-within}
use Rattle.coefficient_round.proofs.Ratio.{with_sign_of-negative, with_sign_of-not_negative, signed_coefficient}
use Rattle.coefficient_round.proofs.distance.dist_coef.Goals as goal

pub coefficient_size-size-requires-clause-within : goal.coefficient_size-size-requires-clause-within
coefficient_size-size-requires-clause-within c =
    let part = simp (to_z-of_z, c.ranges.part) at c.unsigned_abs.ensures.value in
    let length = simp (to_z-of_z, c.ranges.dx, c.ranges.dy) at c.length_squared.ensures in
    rw (c.from.ensures ∙ part, length) (part-within c.args.part c.args.dx c.args.dy c.requires.of_line)

-- the size and its inequalities, of the part and the line themselves
record Sized (part : ℤ) (dx dy : ℤ) (n : ℕ) : Type 0 where
  value : n ≡ greatest_reached (unsigned_abs part) (square_length dx dy) coefficient_scale
  some : 0 < square_length dx dy
  reached : 0 < n → ReachesCoefficient (unsigned_abs part) (square_length dx dy) n
  next_above : 4 * square coefficient_scale * square (unsigned_abs part) < square (2 * n + 1) * square_length dx dy
  small : n ≤ coefficient_scale

negative_value : (part dx dy : ℤ) (n : ℕ) → Sized part dx dy n → part <ℤ pos 0 → cast_signed w64 (cast_unsigned w64 (pos 0 -ℤ cast_signed w64 n)) ≡ with_sign_of part n
negative_value part dx dy n sized below =
    let small : n < 2 ^ 63 = omega (arith, sized.small) in
    let wide : cast_signed w64 n ≡ pos n = to_z_pos w64 n small in
    let turned : pos 0 -ℤ pos n ≡ neg_ℤ (pos n) = omega (arith, ints) in
    let fits : FitsSigned w64 (neg_ℤ (pos n)) = omega (arith, ints) in
    ap (λ t. cast_signed w64 (cast_unsigned w64 (pos 0 -ℤ t))) wide
    ∙ ap (λ t. cast_signed w64 (cast_unsigned w64 t)) turned
    ∙ to_z-of_z w64 (neg_ℤ (pos n)) fits
    ∙ sym (with_sign_of-negative part n below)

other_value : (part dx dy : ℤ) (n : ℕ) → Sized part dx dy n → pos 0 ≤ℤ part → cast_signed w64 n ≡ with_sign_of part n
other_value part dx dy n sized low =
    let small : n < 2 ^ 63 = omega (arith, sized.small) in
    to_z_pos w64 n small ∙ sym (with_sign_of-not_negative part n low)

coefficient : (part dx dy : ℤ) (n : ℕ) → Sized part dx dy n → with_sign_of part n ≡ distance_coefficient part dx dy
unfolding distance_coefficient
coefficient part dx dy n sized = ap (with_sign_of part) sized.value

rounded : (part dx dy : ℤ) (n : ℕ) → Sized part dx dy n → IsDistanceCoefficient part (square_length dx dy) (with_sign_of part n)
rounded part dx dy n sized = signed_coefficient part (square_length dx dy) n sized.some sized.reached sized.next_above

sized_from : (part dx dy : ℤ) (p l n : ℕ) → p ≡ unsigned_abs part → l ≡ square_length dx dy → 10 ^ 6 ≤ square_length dx dy → n ≡ greatest_reached p l coefficient_scale → (0 < n → ReachesCoefficient p l n) → 4 * square coefficient_scale * square p < square (2 * n + 1) * l → n ≤ coefficient_scale → Sized part dx dy n
sized_from part dx dy p l n part_is length_is long value reached next small = record {
  value = value ∙ ap₂ (λ a d. greatest_reached a d coefficient_scale) part_is length_is;
  some = omega arith;
  reached = subst (λ a. 0 < n → ReachesCoefficient a (square_length dx dy) n) part_is (subst (λ d. 0 < n → ReachesCoefficient p d n) length_is reached);
  next_above = subst (λ a. 4 * square coefficient_scale * square a < square (2 * n + 1) * square_length dx dy) part_is (subst (λ d. 4 * square coefficient_scale * square p < square (2 * n + 1) * d) length_is next);
  small = small;
}

sized_below : (c : goal.Then-part-lt0) → Sized c.args.part c.args.dx c.args.dy c.coefficient_size-size.result
sized_below c =
    let part = simp (to_z-of_z, c.ranges.part) at c.unsigned_abs.ensures.value in
    let length = simp (to_z-of_z, c.ranges.dx, c.ranges.dy) at c.length_squared.ensures in
    sized_from c.args.part c.args.dx c.args.dy c.from.result c.length_squared.result c.coefficient_size-size.result (c.from.ensures ∙ part) length c.requires.least
    c.coefficient_size-size.ensures.value c.coefficient_size-size.ensures.reached c.coefficient_size-size.ensures.next_above c.coefficient_size-size.ensures.size

sized_other : (c : goal.Else-part-lt0) → Sized c.args.part c.args.dx c.args.dy c.coefficient_size-size.result
sized_other c =
    let part = simp (to_z-of_z, c.ranges.part) at c.unsigned_abs.ensures.value in
    let length = simp (to_z-of_z, c.ranges.dx, c.ranges.dy) at c.length_squared.ensures in
    sized_from c.args.part c.args.dx c.args.dy c.from.result c.length_squared.result c.coefficient_size-size.result (c.from.ensures ∙ part) length c.requires.least
    c.coefficient_size-size.ensures.value c.coefficient_size-size.ensures.reached c.coefficient_size-size.ensures.next_above c.coefficient_size-size.ensures.size

pub returns-then-part-lt0-clause-value : goal.returns-then-part-lt0-clause-value
returns-then-part-lt0-clause-value c =
    let below : c.args.part <ℤ pos 0 = search rules in
    negative_value c.args.part c.args.dx c.args.dy c.coefficient_size-size.result (sized_below c) below ∙ coefficient c.args.part c.args.dx c.args.dy c.coefficient_size-size.result (sized_below c)

pub returns-then-part-lt0-clause-rounded : goal.returns-then-part-lt0-clause-rounded
returns-then-part-lt0-clause-rounded c =
    let below : c.args.part <ℤ pos 0 = search rules in
    subst (IsDistanceCoefficient c.args.part (square_length c.args.dx c.args.dy))
    (sym (negative_value c.args.part c.args.dx c.args.dy c.coefficient_size-size.result (sized_below c) below))
    (rounded c.args.part c.args.dx c.args.dy c.coefficient_size-size.result (sized_below c))

pub returns-else-part-lt0-clause-value : goal.returns-else-part-lt0-clause-value
returns-else-part-lt0-clause-value c =
    let low : pos 0 ≤ℤ c.args.part = search rules in
    other_value c.args.part c.args.dx c.args.dy c.coefficient_size-size.result (sized_other c) low ∙ coefficient c.args.part c.args.dx c.args.dy c.coefficient_size-size.result (sized_other c)

pub returns-else-part-lt0-clause-rounded : goal.returns-else-part-lt0-clause-rounded
returns-else-part-lt0-clause-rounded c =
    let low : pos 0 ≤ℤ c.args.part = search rules in
    subst (IsDistanceCoefficient c.args.part (square_length c.args.dx c.args.dy))
    (sym (other_value c.args.part c.args.dx c.args.dy c.coefficient_size-size.result (sized_other c) low))
    (rounded c.args.part c.args.dx c.args.dy c.coefficient_size-size.result (sized_other c))
