-- A quotient's floor, and whether it is whole.
use Rattle.std.proofs.Common.{◌≡◌, zero, suc, ◌^◌, ◌≤◌, true, cond, refl, sym, ◌∙◌, ap, ap₂, subst, arith, ℤ, pos, negsuc, ◌+ℤ◌, ◌-ℤ◌, ◌*ℤ◌, neg_ℤ, ◌≤ℤ◌, ◌<ℤ◌, unsigned_abs}
use lib.Signed.{le_z, lt_z}
use Rattle.std.specs.Int.{int_rem_euclid}
use Rattle.std.proofs.lemmas.Int.{ints}
use Rattle.whole_algebra.specs.Rounding.{is_zero, floor_over, gap_over}
use Rattle.whole_algebra.proofs.Ring.{mul_comm, neg_mul}
use Rattle.whole_algebra.proofs.Rounding.{floor_split, floor_low, floor_high, floor_unique}
use Rattle.chain_step.proofs.Products.{kept, difference_back}

-- a floor times its divisor is near the number
pub product_near : (number a floor : ℤ) → pos 0 <ℤ a → floor ≡ floor_over a number → ((floor *ℤ a) ≤ℤ number) × (number <ℤ (floor *ℤ a +ℤ a))
product_near number a floor h e =
    let turn : floor *ℤ a ≡ a *ℤ floor_over a number = mul_comm floor a ∙ ap (λ t. a *ℤ t) e in
    (by (floor *ℤ a) (a *ℤ floor_over a number) number turn (floor_low a number h), above (floor *ℤ a) (a *ℤ floor_over a number) number a turn (floor_high a number h))
  where
    by : (p q n : ℤ) → p ≡ q → q ≤ℤ n → p ≤ℤ n
    by p q n e h = omega (arith, ints)

    above : (p q n a : ℤ) → p ≡ q → n <ℤ (q +ℤ a) → n <ℤ (p +ℤ a)
    above p q n a e h = omega (arith, ints)

remainder_is : (number a floor : ℤ) → pos 0 <ℤ a → floor ≡ floor_over a number → number ≡ floor *ℤ a +ℤ int_rem_euclid number a
remainder_is number a floor h e =
    floor_split a number h ∙ ap (λ t. t +ℤ int_rem_euclid number a) (ap (λ t. a *ℤ t) (sym e) ∙ mul_comm a floor)

pub whole_gap : (number a floor : ℤ) → pos 0 <ℤ a → floor ≡ floor_over a number → floor *ℤ a ≡ number → gap_over a number ≡ pos 0
whole_gap number a floor h e whole =
    ap (λ r. cond (is_zero r) (pos 0) (pos 1)) (nothing (int_rem_euclid number a) number (floor *ℤ a) whole (remainder_is number a floor h e))
  where
    nothing : (r n p : ℤ) → p ≡ n → n ≡ p +ℤ r → r ≡ pos 0
    nothing r n p e f = omega (arith, ints)

pub some_gap : (number a floor : ℤ) → pos 0 <ℤ a → floor ≡ floor_over a number → (floor *ℤ a ≡ number → ⊥) → gap_over a number ≡ pos 1
some_gap number a floor h e apart =
    one (int_rem_euclid number a) (λ zero_left. apart (whole number (floor *ℤ a) (int_rem_euclid number a) zero_left (remainder_is number a floor h e)))
  where
    whole : (n p r : ℤ) → r ≡ pos 0 → n ≡ p +ℤ r → p ≡ n
    whole n p r e f = omega (arith, ints)

    one : (r : ℤ) → (r ≡ pos 0 → ⊥) → cond (is_zero r) (pos 0) (pos 1) ≡ pos 1
    one (pos zero) none = absurd (none refl)
    one (pos (suc n)) none = refl
    one (negsuc n) none = refl

-- so the product has nearly the number's size
pub near_size : (product number a : ℤ) → unsigned_abs number ≤ 2 ^ 124 → unsigned_abs a ≤ 2 ^ 61 → product ≤ℤ number → number <ℤ (product +ℤ a) → unsigned_abs product ≤ 2 ^ 126
near_size product number a h g low high = omega (arith, ints)

-- a gap is a small number
pub gap_size : (t : ℤ) → pos 0 ≤ℤ t → t ≤ℤ pos 1 → unsigned_abs t ≤ 2 ^ 126
gap_size t a b = omega (arith, ints)

-- ---- a quotient that was guessed: what it leaves of the number says whether it is the floor, and whether it is whole
pub guessed_floor : (number a guess rest : ℤ) → pos 0 <ℤ a → rest ≡ number -ℤ guess *ℤ a → pos 0 ≤ℤ rest → rest <ℤ a → guess ≡ floor_over a number
guessed_floor number a guess rest above e low high =
    sym (floor_unique a number guess above
    (at_most (a *ℤ guess) (guess *ℤ a) number rest (mul_comm a guess) e low)
    (within (a *ℤ guess) (guess *ℤ a) number rest a (mul_comm a guess) e high))
  where
    at_most : (p q n r : ℤ) → p ≡ q → r ≡ n -ℤ q → pos 0 ≤ℤ r → p ≤ℤ n
    at_most p q n r e f h = omega (arith, ints)

    within : (p q n r a : ℤ) → p ≡ q → r ≡ n -ℤ q → r <ℤ a → n <ℤ (p +ℤ a)
    within p q n r a e f h = omega (arith, ints)

pub guessed_gap : (number a guess rest : ℤ) → pos 0 <ℤ a → rest ≡ number -ℤ guess *ℤ a → pos 0 ≤ℤ rest → rest <ℤ a → cond (is_zero rest) (pos 0) (pos 1) ≡ gap_over a number
guessed_gap number a guess rest above e low high =
    ap (λ r. cond (is_zero r) (pos 0) (pos 1))
    (same (guess *ℤ a) number rest (int_rem_euclid number a) e (remainder_is number a guess above (guessed_floor number a guess rest above e low high)))
  where
    same : (p n r s : ℤ) → r ≡ n -ℤ p → n ≡ p +ℤ s → r ≡ s
    same p n r s e f = omega (arith, ints)

-- what a product leaves of a number, as the code tests it
pub left_over : (number product a : ℤ) → unsigned_abs number ≤ 2 ^ 124 → unsigned_abs product ≤ 2 ^ 124
    → le_z (pos 0) (kept (kept number -ℤ kept product)) ≡ true → lt_z (kept (kept number -ℤ kept product)) a ≡ true
    → (pos 0 ≤ℤ (number -ℤ product)) × ((number -ℤ product) <ℤ a)
left_over number product a h g low high =
    let e = (difference_back number product h g).1 in (
      at_least (number -ℤ product) (subst (λ z. le_z (pos 0) z ≡ true) e low),
      less (number -ℤ product) a (subst (λ z. lt_z z a ≡ true) e high),
    )
  where
    at_least : (z : ℤ) → le_z (pos 0) z ≡ true → pos 0 ≤ℤ z
    at_least z e = grind (arith, ints)

    less : (z a : ℤ) → lt_z z a ≡ true → z <ℤ a
    less z a e = grind (arith, ints)

-- a divisor that stands for a pivot and a number with the other sign
pub divided_floor : (pivot factor a p q : ℤ) → pivot ≡ a → factor ≡ neg_ℤ p → floor_over pivot (factor *ℤ q) ≡ floor_over a (neg_ℤ (p *ℤ q))
divided_floor pivot factor a p q e f = ap₂ (λ d n. floor_over d n) e (ap (λ t. t *ℤ q) f ∙ neg_mul p q)

pub divided_gap : (pivot factor a p q : ℤ) → pivot ≡ a → factor ≡ neg_ℤ p → gap_over pivot (factor *ℤ q) ≡ gap_over a (neg_ℤ (p *ℤ q))
divided_gap pivot factor a p q e f = ap₂ (λ d n. gap_over d n) e (ap (λ t. t *ℤ q) f ∙ neg_mul p q)
