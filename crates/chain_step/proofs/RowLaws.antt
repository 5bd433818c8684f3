-- What is asked of a first row, and what the answers tell of a step: sizes beside the head, rows of zeros.
use Rattle.std.proofs.Common.{◌≡◌, ℕ, zero, suc, ◌+◌, ◌-◌, ◌*◌, ◌^◌, ◌<◌, ◌≤◌, Bool, true, false, ◌&&◌, ◌||◌, List, [], ◌∷◌, length, take, drop, refl, sym, ◌∙◌, ap, arith, ℤ, pos, negsuc, ◌*ℤ◌, neg_ℤ, ◌≤ℤ◌, ◌<ℤ◌, unsigned_abs, IsTrue, int_lt, int_le}
use Rattle.std.specs.Prelude.{All}
use lib.Signed.{le_z}
use Rattle.std.specs.List.{list_all}
use Rattle.std.proofs.lemmas.Int.{ints, unsigned_abs-mul}
use Rattle.std.proofs.lemmas.Nat.{mul-le}
use Rattle.whole_algebra.specs.Rounding.{is_zero}
use Rattle.whole_algebra.specs.Matrices.{at}
use Rattle.whole_algebra.specs.Chains.{size_limit, is_too_large, step_of, stop, beside}
use Rattle.whole_algebra.proofs.Order.{square_nonneg, mul_le_mul_right}
use Rattle.whole_algebra.proofs.ChainLaws.{step_cases, is_zero-true, and_left, and_right, positive}
use Rattle.whole_algebra.proofs.Refutation.{false_is_not_true}
use Rattle.whole_algebra.proofs.Sizes.{or_parts}

-- past its end a row has zeros
pub nothing_past : (xs : List ℤ) (i : ℕ) → length xs ≤ i → at xs i ≡ pos 0
nothing_past [] i h = refl
nothing_past (x ∷ xs) zero h = absurd (omega arith)
nothing_past (x ∷ xs) (suc i) h = nothing_past xs i (omega arith)

-- the row without its head, as a slice
pub rest_is_beside : (row : List ℤ) → take (length row - 1) (drop 1 row) ≡ beside row
rest_is_beside [] = refl
rest_is_beside (a ∷ b) = whole b (suc (length b) - 1) (omega arith)
  where
    whole : (ys : List ℤ) (n : ℕ) → n ≡ length ys → take n ys ≡ ys
    whole [] zero e = refl
    whole [] (suc n) e = refl
    whole (y ∷ ys) zero e = absurd (omega arith)
    whole (y ∷ ys) (suc n) e = ap (λ t. y ∷ t) (whole ys n (omega arith))

-- ---- the size of one number
pub too_large : (c head : ℤ) → 2 ^ 61 < unsigned_abs c → head ≤ℤ pos (2 ^ 61) → (c *ℤ c) ≤ℤ (head *ℤ size_limit) → ⊥
too_large c head large high h =
    by (unsigned_abs c * unsigned_abs c) (c *ℤ c) (head *ℤ size_limit) (sym (unsigned_abs-mul c c)) (square_nonneg c) h
    (mul_le_mul_right size_limit head (pos (2 ^ 61)) (omega (arith, ints)) high)
    (mul-le (2 ^ 61 + 1) (2 ^ 61 + 1) (unsigned_abs c) (unsigned_abs c) (omega arith) (omega arith))
  where
    by : (n : ℕ) (q m : ℤ) → n ≡ unsigned_abs q → pos 0 ≤ℤ q → q ≤ℤ m → m ≤ℤ (pos (2 ^ 61) *ℤ size_limit) → (2 ^ 61 + 1) * (2 ^ 61 + 1) ≤ n → ⊥
    by n q m e low high most large = omega (arith, ints)

pub small_test : (p q x y : ℤ) → p ≡ x → q ≡ y → (IsTrue (le_z p q) → x ≤ℤ y) × (x ≤ℤ y → IsTrue (le_z p q))
small_test p q x y e f = (λ h. forward p q x y e f h, λ h. backward p q x y e f h)
  where
    forward : (p q x y : ℤ) → p ≡ x → q ≡ y → IsTrue (le_z p q) → x ≤ℤ y
    forward p q x y e f h = grind (arith, ints)

    backward : (p q x y : ℤ) → p ≡ x → q ≡ y → x ≤ℤ y → IsTrue (le_z p q)
    backward p q x y e f h = grind (arith, ints)

-- ---- all numbers beside the head
pub neither : (t u : Bool) → t ≡ false → u ≡ false → t || u ≡ false
neither true u e f = e
neither false u e f = f

only_false : (t : Bool) → (t ≡ true → ⊥) → t ≡ false
only_false true h = absurd (h refl)
only_false false h = refl

pub not_large : (s : ℤ) (b : List ℤ) → All (λ c. (c *ℤ c) ≤ℤ (s *ℤ size_limit)) b → is_too_large s b ≡ false
not_large s [] h = refl
not_large s (c ∷ b) h =
    neither (int_lt (s *ℤ size_limit) (c *ℤ c)) (is_too_large s b)
    (only_false (int_lt (s *ℤ size_limit) (c *ℤ c)) (λ e. above (s *ℤ size_limit) (c *ℤ c) (h 0 (pos 0) (omega arith)) e))
    (not_large s b (λ k d lt. h (suc k) d (omega arith)))
  where
    above : (k q : ℤ) → q ≤ℤ k → int_lt k q ≡ true → ⊥
    above k q h e = omega (arith, ints)

pub all_small : (s : ℤ) (b : List ℤ) → is_too_large s b ≡ false → All (λ c. (c *ℤ c) ≤ℤ (s *ℤ size_limit)) b
all_small s [] e k d lt = absurd (omega arith)
all_small s (c ∷ b) e zero d lt = at_most (s *ℤ size_limit) (c *ℤ c) (or_parts (int_lt (s *ℤ size_limit) (c *ℤ c)) (is_too_large s b) e).0
  where
    at_most : (k q : ℤ) → int_lt k q ≡ false → q ≤ℤ k
    at_most k q h = omega (arith, ints)
all_small s (c ∷ b) e (suc k) d lt = all_small s b (or_parts (int_lt (s *ℤ size_limit) (c *ℤ c)) (is_too_large s b) e).1 k d (omega arith)

-- ---- cases that rule one another out
pub apart_zero : (a : ℤ) → pos 0 <ℤ a → a ≡ pos 0 → ⊥
apart_zero a h e = omega (arith, ints)

pub not_low : (a : ℤ) → pos 0 <ℤ a → int_le a (pos 0) ≡ true → ⊥
not_low a h e = omega (arith, ints)

pub not_high : (a : ℤ) → (pos 0 <ℤ a → ⊥) → int_le a (pos 0) ≡ false → ⊥
not_high a h e = h (positive a e)

pub clash : (b : Bool) → b ≡ true → b ≡ false → ⊥
clash b e f = false_is_not_true (sym f ∙ e)

-- ---- rows of zeros
pub zero_is : (z : ℤ) → z ≡ pos 0 → is_zero z ≡ true
zero_is (pos zero) e = refl
zero_is (pos (suc n)) e = absurd (omega (arith, ints))
zero_is (negsuc n) e = absurd (omega (arith, ints))

pub both : (s t : Bool) → s ≡ true → t ≡ true → s && t ≡ true
both true t e f = f
both false t e f = e

pub all_zero : (row : List ℤ) → All (λ z. z ≡ pos 0) row → list_all is_zero row ≡ true
all_zero [] h = refl
all_zero (z ∷ row) h = both (is_zero z) (list_all is_zero row) (zero_is z (h 0 (pos 0) (omega arith))) (all_zero row (λ k d lt. h (suc k) d (omega arith)))

pub zero_all : (row : List ℤ) → list_all is_zero row ≡ true → All (λ z. z ≡ pos 0) row
zero_all [] e k d lt = absurd (omega arith)
zero_all (z ∷ row) e zero d lt = is_zero-true z (and_left (is_zero z) (list_all is_zero row) e)
zero_all (z ∷ row) e (suc k) d lt = zero_all row (and_right (is_zero z) (list_all is_zero row) e) k d (omega arith)

-- ---- a head above 0 with a large number beside it
pub large_stops : (row : List ℤ) → pos 0 <ℤ at row 0 → (All (λ c. (c *ℤ c) ≤ℤ (at row 0 *ℤ size_limit)) (beside row) → ⊥) → step_of row ≡ stop (neg_ℤ size_limit)
large_stops [] above none = absurd (apart_zero (pos 0) above refl)
large_stops (a ∷ b) above none =
    step_cases (λ s. s ≡ stop (neg_ℤ size_limit)) a b
    (λ zeros. absurd (apart_zero a above (is_zero-true a (and_left (is_zero a) (list_all is_zero b) zeros))))
    (λ _ low. absurd (not_low a above low))
    (λ _ _. refl)
    (λ _ small. absurd (none (all_small a b small)))
