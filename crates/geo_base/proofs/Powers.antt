-- The words of `specs/Grid.antt` meet the inequalities that define them.
use Rattle.std.proofs.Common.{◌≡◌, ℕ, zero, suc, ◌+◌, ◌-◌, ◌*◌, ◌/◌, ◌^◌, ◌<◌, ◌≤◌, arith, ap, sym, ◌∙◌, refl, subst, inl, inr}
use Rattle.std.specs.Prelude.{ℤ, pos, negsuc, neg_ℤ, ◌+ℤ◌, ◌-ℤ◌, ◌*ℤ◌, ◌≤ℤ◌, ◌<ℤ◌, unsigned_abs, ◌↔◌, ◌==◌, IsTrue}
use Rattle.std.specs.Int.{int_div_euclid, int_rem_euclid, leading_zeros, w128, cast_unsigned}
use Rattle.std.proofs.lemmas.Int.{ints}
use Rattle.std.proofs.lemmas.Bool.{cases_lt}
use Rattle.std.proofs.lemmas.Bool.Decides.{Decides-eqb}
use Rattle.std.proofs.lemmas.Nat.{leading_top, pow-add, pow_pos}
use Rattle.std.proofs.Math.Nat.{div-add-mod', pow-le-pow_right, mul-le-mul_right, mul-lt-mul_of_pos_right, mod-lt, mul-pos}
use borrow.Author.Differences.{up, down}
use Rattle.geo_base.specs.Division.{IsFloor, floor_of}
use Rattle.geo_base.specs.Grid.{shift_of, IsShifted, IsWholeShift, IsExponent, exponent_of}
use Rattle.geo_base.proofs.Rounding.{floor_of-IsFloor, IsFloor-unique, add-*ℤ, neg-*ℤ, mul_keeps_order}

pub shift_of-negative : (n e : ℤ) → e <ℤ pos 0 → shift_of n e ≡ n *ℤ pos (2 ^ unsigned_abs e)
unfolding shift_of
shift_of-negative n (pos k) less = absurd (omega (arith, ints))
shift_of-negative n (negsuc k) less = refl

pub shift_of-not_negative : (n e : ℤ) → pos 0 ≤ℤ e → shift_of n e ≡ floor_of n (pos (2 ^ unsigned_abs e))
unfolding shift_of
shift_of-not_negative n (pos k) low = refl
shift_of-not_negative n (negsuc k) low = absurd (omega (arith, ints))

pub shift_of-IsShifted : (n e : ℤ) → IsShifted n e (shift_of n e)
unfolding shift_of
shift_of-IsShifted n (pos k) = floor_of-IsFloor n (pos (2 ^ k)) (let some : 0 < 2 ^ k = pow_pos k in omega (arith, ints))
shift_of-IsShifted n (negsuc k) = refl

-- quotient and remainder give the number back
euclid_back : (n : ℤ) (k : ℕ) → 0 < k → n ≡ int_div_euclid n (pos k) *ℤ pos k +ℤ int_rem_euclid n (pos k)
euclid_back (pos a) k some = omega (arith, ints, div-add-mod' a k)
euclid_back (negsuc a) k some = omega (arith, ints, div-add-mod' a k, mod-lt a some)

remainder_sign : (n d : ℤ) (m : ℕ) → int_rem_euclid n d ≡ negsuc m → ⊥
remainder_sign (pos a) d m equal = cc
remainder_sign (negsuc a) d m equal = cc

pos_injective : (a b : ℕ) → pos a ≡ pos b → a ≡ b
pos_injective a b equal = cc

-- a remainder of 0 says that the number is a multiple
pub zero_remainder : (n : ℤ) (k : ℕ) → 0 < k → (int_rem_euclid n (pos k) ≡ pos 0) ↔ ((q : ℤ) × (n ≡ q *ℤ pos k))
unfolding floor_of
zero_remainder n k some = (
  λ none. (int_div_euclid n (pos k), omega (arith, ints, euclid_back n k some)),
  λ multiple.
      let q : ℤ = multiple.0 in
      let equal : n ≡ q *ℤ pos k = multiple.1 in
      let one : pos 1 *ℤ pos k ≡ pos k = omega (arith, ints) in
      let floor : IsFloor n (pos k) q = record { reached = omega (arith, ints); next_above = omega (arith, ints, add-*ℤ q (pos 1) (pos k)) } in
      let positive : pos 0 <ℤ pos k = omega (arith, ints) in
      let same : int_div_euclid n (pos k) ≡ q = IsFloor-unique n (pos k) (floor_of n (pos k)) q positive (floor_of-IsFloor n (pos k) positive) floor in
      let times : int_div_euclid n (pos k) *ℤ pos k ≡ q *ℤ pos k = ap (λ t. t *ℤ pos k) same in
      omega (arith, ints, euclid_back n k some),
)

-- the remainder of a division by 2 ^ k tells whether 2 ^ k divides
pub remainder_tells : (n e r : ℤ) → pos 0 ≤ℤ e → r ≡ int_rem_euclid n (pos (2 ^ unsigned_abs e)) → IsTrue (cast_unsigned w128 r == 0) ↔ IsWholeShift n e
remainder_tells n (negsuc k) r low is = absurd (omega (arith, ints))
remainder_tells n (pos k) (negsuc m) low is = absurd (remainder_sign n (pos (2 ^ k)) m (sym is))
remainder_tells n (pos k) (pos m) low is =
    let tells = zero_remainder n (2 ^ k) (pow_pos k) in
    let test = Decides-eqb m 0 in
    (λ yes. tells.0 (sym is ∙ ap pos (test.0 yes)), λ whole. test.1 (pos_injective m 0 (is ∙ tells.1 whole)))

exponent_above : (a j i : ℕ) → 2 ^ j ≤ a → a < 2 ^ suc j → 58 + 2 * i ≤ j → j < 60 + 2 * i → IsExponent (pos a) (pos i)
exponent_above a j i low high under over =
    let first : 2 ^ (58 + 2 * i) ≤ 2 ^ j = pow-le-pow_right {n = 2} (omega arith) under in
    let last : 2 ^ suc j ≤ 2 ^ (60 + 2 * i) = pow-le-pow_right {n = 2} (omega arith) (omega arith) in
    (omega (arith, ints), omega (arith, ints))

exponent_below : (a j i : ℕ) → 2 ^ j ≤ a → a < 2 ^ suc j → 58 ≤ j + 2 * suc i → j + 2 * suc i < 60 → IsExponent (pos a) (negsuc i)
exponent_below a j i low high under over =
    let first : 2 ^ 58 ≤ 2 ^ (j + 2 * suc i) = pow-le-pow_right {n = 2} (omega arith) under in
    let ends : suc j + 2 * suc i ≤ 60 = omega arith in
    let last : 2 ^ (suc j + 2 * suc i) ≤ 2 ^ 60 = pow-le-pow_right {n = 2} (omega arith) ends in
    let from : 2 ^ j * 2 ^ (2 * suc i) ≤ a * 2 ^ (2 * suc i) = mul-le-mul_right (2 ^ (2 * suc i)) low in
    let under_end : a * 2 ^ (2 * suc i) < 2 ^ suc j * 2 ^ (2 * suc i) = mul-lt-mul_of_pos_right high (pow_pos (2 * suc i)) in
    let reached : 2 ^ 58 ≤ a * 2 ^ (2 * suc i) = omega (arith, pow-add 2 j (2 * suc i)) in
    let below : a * 2 ^ (2 * suc i) < 2 ^ 60 = omega (arith, pow-add 2 (suc j) (2 * suc i)) in
    (omega (arith, ints), omega (arith, ints))

-- m is half of j + 1, rounded up
exponent_at : (a j m : ℕ) → 2 ^ j ≤ a → a < 2 ^ suc j → 2 * m ≤ j + 2 → j < 2 * m → IsExponent (pos a) (pos m -ℤ pos 30)
exponent_at a j m low high at_most over = elim (cases_lt m 30) [
  | inl less ↦ let i : ℕ = 29 - m in
      let same : pos m -ℤ pos 30 ≡ negsuc i = omega (arith, ints) in
      let under : 58 ≤ j + 2 * suc i = omega arith in
      let ends : j + 2 * suc i < 60 = omega arith in
      subst (IsExponent (pos a)) (sym same) (exponent_below a j i low high under ends)
  | inr more ↦ let i : ℕ = m - 30 in
      let same : pos m -ℤ pos 30 ≡ pos i = omega (arith, ints) in
      let under : 58 + 2 * i ≤ j = omega arith in
      let ends : j < 60 + 2 * i = omega arith in
      subst (IsExponent (pos a)) (sym same) (exponent_above a j i low high under ends)
]

pub exponent_of-zero : exponent_of (pos 0) ≡ pos 0
unfolding exponent_of
exponent_of-zero = refl

pub exponent_of-positive : (v : ℤ) → pos 0 <ℤ v → exponent_of v ≡ pos ((129 - leading_zeros w128 (unsigned_abs v)) / 2) -ℤ pos 30
unfolding exponent_of
exponent_of-positive (pos zero) some = absurd (omega (arith, ints))
exponent_of-positive (pos (suc n)) some = refl
exponent_of-positive (negsuc n) some = absurd (omega (arith, ints))

pub exponent_of-IsExponent : (v : ℤ) → pos 0 <ℤ v → v <ℤ pos (2 ^ 128) → IsExponent v (exponent_of v)
exponent_of-IsExponent (negsuc n) some below = absurd (omega (arith, ints))
exponent_of-IsExponent (pos a) some below =
    let lead = leading_top 128 a (omega (arith, ints)) (omega (arith, ints)) in
    let half : ℕ = (129 - leading_zeros w128 a) / 2 in
    let low : 2 * half ≤ lead.0 + 2 = omega (arith, lead.1) in
    let high : lead.0 < 2 * half = omega (arith, lead.1) in
    subst (IsExponent (pos a)) (sym (exponent_of-positive (pos a) some)) (exponent_at a lead.0 half lead.2 lead.3 low high)

-- what the caller of `grid_exponent` may hand on to `shift_floor`
pub exponent_of-range : (v : ℤ) → pos 0 ≤ℤ v → v <ℤ pos (2 ^ 100) → (negsuc 28 ≤ℤ exponent_of v) × (exponent_of v ≤ℤ pos 20)
exponent_of-range (negsuc n) low high = absurd (omega (arith, ints))
exponent_of-range (pos zero) low high = let at : exponent_of (pos 0) ≡ pos 0 = exponent_of-zero in (omega (arith, ints), omega (arith, ints))
exponent_of-range (pos (suc n)) low high =
    let small : suc n < 2 ^ 100 = omega (arith, ints) in
    let lead = leading_top 128 (suc n) (omega arith) (omega arith) in
    let place : lead.0 < 100 = elim (cases_lt lead.0 100) [ inl less ↦ less | inr more ↦ absurd (let power : 2 ^ 100 ≤ 2 ^ lead.0 = pow-le-pow_right {n = 2} (omega arith) more in omega (arith, lead.2)) ] in
    let half : ℕ = (129 - leading_zeros w128 (suc n)) / 2 in
    let least : 1 ≤ half = omega (arith, lead.1) in
    let most : half ≤ 50 = omega (arith, lead.1) in
    let at : exponent_of (pos (suc n)) ≡ pos half -ℤ pos 30 = exponent_of-positive (pos (suc n)) (omega (arith, ints)) in
    (omega (arith, ints), omega (arith, ints))

-- a factor that is itself a product
pub *ℤ-times : (q : ℤ) (k c : ℕ) → q *ℤ pos (k * c) ≡ (q *ℤ pos k) *ℤ pos c
*ℤ-times (pos a) k c = omega (arith, ints)
*ℤ-times (negsuc a) k c =
    let inner : neg_ℤ (pos (suc a * k)) *ℤ pos c ≡ neg_ℤ (pos (suc a * k) *ℤ pos c) = neg-*ℤ (pos (suc a * k)) (pos c) in
    omega (arith, ints)

-- a product with a positive number keeps the strict order
pub mul_keeps_less : (a b : ℤ) (c : ℕ) → 0 < c → a <ℤ b → (a *ℤ pos c) <ℤ (b *ℤ pos c)
mul_keeps_less a b c some less =
    let plain : up a + down b < up b + down a = omega (arith, ints) in
    let times : (up a + down b) * c < (up b + down a) * c = mul-lt-mul_of_pos_right plain some in
    omega (arith, ints)

-- a floor stays where number and divisor are multiplied by the same
pub floor_of-times : (n : ℤ) (k c : ℕ) → 0 < k → 0 < c → floor_of (n *ℤ pos c) (pos (k * c)) ≡ floor_of n (pos k)
floor_of-times n k c some more =
    let divisor : pos 0 <ℤ pos k = omega (arith, ints) in
    let product : 0 < k * c = mul-pos some more in
    let wide : pos 0 <ℤ pos (k * c) = omega (arith, ints) in
    let q : ℤ = floor_of n (pos k) in
    let floor : IsFloor n (pos k) q = floor_of-IsFloor n (pos k) divisor in
    let whole : pos 0 ≤ℤ pos c = omega (arith, ints) in
    let reached : ((q *ℤ pos k) *ℤ pos c) ≤ℤ (n *ℤ pos c) = mul_keeps_order (q *ℤ pos k) n (pos c) whole floor.reached in
    let next_above : (n *ℤ pos c) <ℤ (((q +ℤ pos 1) *ℤ pos k) *ℤ pos c) = mul_keeps_less n ((q +ℤ pos 1) *ℤ pos k) c more floor.next_above in
    let scaled : IsFloor (n *ℤ pos c) (pos (k * c)) q = record {
      reached = rw (*ℤ-times q k c) reached;
      next_above = rw (*ℤ-times (q +ℤ pos 1) k c) next_above;
    } in
    IsFloor-unique (n *ℤ pos c) (pos (k * c)) (floor_of (n *ℤ pos c) (pos (k * c))) q wide (floor_of-IsFloor (n *ℤ pos c) (pos (k * c)) wide) scaled

-- a multiple of the divisor gives its factor back
pub floor_of-multiple : (q : ℤ) (k : ℕ) → 0 < k → floor_of (q *ℤ pos k) (pos k) ≡ q
floor_of-multiple q k some =
    let divisor : pos 0 <ℤ pos k = omega (arith, ints) in
    let one : pos 1 *ℤ pos k ≡ pos k = omega (arith, ints) in
    let floor : IsFloor (q *ℤ pos k) (pos k) q = record { reached = omega (arith, ints); next_above = omega (arith, ints, add-*ℤ q (pos 1) (pos k)) } in
    IsFloor-unique (q *ℤ pos k) (pos k) (floor_of (q *ℤ pos k) (pos k)) q divisor (floor_of-IsFloor (q *ℤ pos k) (pos k) divisor) floor

-- a shift by m - k is a division by 2 ^ m of the number times 2 ^ k
pub shift_of-scaled : (n e : ℤ) (k m : ℕ) → pos m ≡ e +ℤ pos k → shift_of n e ≡ floor_of (n *ℤ pos (2 ^ k)) (pos (2 ^ m))
unfolding shift_of
shift_of-scaled n (pos i) k m equal =
    let sum : m ≡ i + k = omega (arith, ints) in
    let power : 2 ^ m ≡ 2 ^ i * 2 ^ k = ap (λ t. 2 ^ t) sum ∙ pow-add 2 i k in
    sym (ap (λ t. floor_of (n *ℤ pos (2 ^ k)) (pos t)) power ∙ floor_of-times n (2 ^ i) (2 ^ k) (pow_pos i) (pow_pos k))
shift_of-scaled n (negsuc i) k m equal =
    let sum : k ≡ suc i + m = omega (arith, ints) in
    let power : 2 ^ k ≡ 2 ^ suc i * 2 ^ m = ap (λ t. 2 ^ t) sum ∙ pow-add 2 (suc i) m in
    let times : n *ℤ pos (2 ^ k) ≡ (n *ℤ pos (2 ^ suc i)) *ℤ pos (2 ^ m) = ap (λ t. n *ℤ pos t) power ∙ *ℤ-times n (2 ^ suc i) (2 ^ m) in
    sym (ap (λ t. floor_of t (pos (2 ^ m))) times ∙ floor_of-multiple (n *ℤ pos (2 ^ suc i)) (2 ^ m) (pow_pos m))
