-- The row of a pivot that can be divided by.
use Rattle.std.proofs.Common.{◌≡◌, ℕ, zero, suc, ◌+◌, ◌*◌, ◌^◌, ◌≤◌, true, false, List, [], ◌∷◌, length, refl, sym, arith, inl, inr, ℤ, pos, ◌+ℤ◌, ◌*ℤ◌, neg_ℤ, ◌≤ℤ◌, ◌<ℤ◌, unsigned_abs}
use Rattle.std.specs.List.{list_all}
use Rattle.std.proofs.lemmas.Int.{ints, unsigned_abs-mul}
use Rattle.std.proofs.lemmas.Bool.{cases_lt}
use Rattle.std.proofs.lemmas.Nat.{mul-le}
use Rattle.whole_algebra.specs.Rounding.{is_zero, floor_over, gap_over}
use Rattle.whole_algebra.specs.Matrices.{at}
use Rattle.whole_algebra.specs.Chains.{size_limit, is_too_large, step_of, is_stop}
use Rattle.whole_algebra.proofs.Order.{square_nonneg, mul_nonneg, mul_le_mul_right, le_trans}
use Rattle.whole_algebra.proofs.Ring.{mul_zero}
use Rattle.whole_algebra.proofs.Rounding.{floor_at_most, ceil_at_most}
use Rattle.whole_algebra.proofs.ChainLaws.{step_cases, is_zero-true, and_left, and_right, positive}
use Rattle.whole_algebra.proofs.Refutation.{false_is_not_true}
use Rattle.whole_algebra.proofs.Sizes.{squares_at_most, taken_within}
use Rattle.chain_step.specs.Step.{IsDividing, taken}

-- what a step that goes on, beside a number that isn't 0, shows of its row
pub record IsPivot (pivot : List ℤ) : Type 0 where
  pub above : pos 0 <ℤ at pivot 0
  pub small : (j : ℕ) → 1 ≤ j → (at pivot j *ℤ at pivot j) ≤ℤ (at pivot 0 *ℤ size_limit)
  pub taken_size : (i j : ℕ) → 1 ≤ i → 1 ≤ j → unsigned_abs (taken pivot i j) ≤ 2 ^ 61

-- a row of zeros, read at any place
pub at_zeros : (b : List ℤ) (k : ℕ) → list_all is_zero b ≡ true → at b k ≡ pos 0
at_zeros [] k e = refl
at_zeros (c ∷ b) zero e = is_zero-true c (and_left (is_zero c) (list_all is_zero b) e)
at_zeros (c ∷ b) (suc k) e = at_zeros b k (and_right (is_zero c) (list_all is_zero b) e)

pub is_pivot : (a : ℤ) (b : List ℤ) → pos 0 <ℤ a → is_too_large a b ≡ false → IsPivot (a ∷ b)
is_pivot a b above small = record {
  above = above;
  small = squares;
  taken_size = sizes;
}
  where
    room : pos 0 ≤ℤ (a *ℤ size_limit)
    room = mul_nonneg a size_limit (omega (arith, ints)) (omega (arith, ints))

    squares : (j : ℕ) → 1 ≤ j → (at (a ∷ b) j *ℤ at (a ∷ b) j) ≤ℤ (a *ℤ size_limit)
    squares zero one = absurd (omega arith)
    squares (suc j) one = squares_at_most (a *ℤ size_limit) b j room small

    within : (z : ℤ) → neg_ℤ size_limit ≤ℤ z → z ≤ℤ size_limit → unsigned_abs z ≤ 2 ^ 61
    within z low high = omega (arith, ints)

    sizes : (i j : ℕ) → 1 ≤ i → 1 ≤ j → unsigned_abs (taken (a ∷ b) i j) ≤ 2 ^ 61
    sizes zero j one two = absurd (omega arith)
    sizes (suc i) zero one two = absurd (omega arith)
    sizes (suc i) (suc j) one two =
        let p = taken_within a b i j above small in
        within (floor_over a (neg_ℤ (at b i *ℤ at b j))) p.0 p.1

pub pivot_of : (row : List ℤ) (k : ℕ) → is_stop (step_of row) ≡ false → 1 ≤ k → (at row k ≡ pos 0 → ⊥) → IsPivot row
pivot_of [] k e one some = absurd (some refl)
pivot_of (a ∷ b) zero e one some = absurd (omega arith)
pivot_of (a ∷ b) (suc k) e one some =
    step_cases (λ s. is_stop s ≡ false → IsPivot (a ∷ b)) a b
    (λ zeros _. absurd (some (at_zeros b k (and_right (is_zero a) (list_all is_zero b) zeros))))
    (λ _ _ f. absurd (false_is_not_true (sym f)))
    (λ _ _ f. absurd (false_is_not_true (sym f)))
    (λ above small _. is_pivot a b (positive a above) small)
    e

-- a number whose square is at most 2 ^ 122
root_size : (z : ℤ) → (z *ℤ z) ≤ℤ pos (2 ^ 122) → unsigned_abs z ≤ 2 ^ 61
root_size z h =
    elim (cases_lt (2 ^ 61) (unsigned_abs z)) [
      | inl large ↦ absurd (by (unsigned_abs z * unsigned_abs z) (z *ℤ z) (sym (unsigned_abs-mul z z)) (square_nonneg z) h
          (mul-le (2 ^ 61 + 1) (2 ^ 61 + 1) (unsigned_abs z) (unsigned_abs z) (omega arith) (omega arith)))
      | inr small ↦ small
    ]
  where
    by : (n : ℕ) (q : ℤ) → n ≡ unsigned_abs q → pos 0 ≤ℤ q → q ≤ℤ pos (2 ^ 122) → (2 ^ 61 + 1) * (2 ^ 61 + 1) ≤ n → ⊥
    by n q e low high large = omega (arith, ints)

pub dividing : (row : List ℤ) → IsPivot row → length row ≤ 64 → at row 0 ≤ℤ pos (2 ^ 61) → IsDividing row
dividing row p few head = record {
  above = p.above;
  few = few;
  each_size = sizes;
  taken_size = p.taken_size;
}
  where
    most : (at row 0 *ℤ size_limit) ≤ℤ pos (2 ^ 122)
    most = let h = mul_le_mul_right size_limit (at row 0) (pos (2 ^ 61)) (omega (arith, ints)) head in omega (arith, ints)

    first : (a : ℤ) → pos 0 <ℤ a → a ≤ℤ pos (2 ^ 61) → unsigned_abs a ≤ 2 ^ 61
    first a low high = omega (arith, ints)

    sizes : (j : ℕ) → unsigned_abs (at row j) ≤ 2 ^ 61
    sizes zero = first (at row 0) p.above head
    sizes (suc j) = root_size (at row (suc j)) (le_trans (at row (suc j) *ℤ at row (suc j)) (at row 0 *ℤ size_limit) (pos (2 ^ 122)) (p.small (suc j) (omega arith)) most)

-- ---- on the diagonal nothing is added
below_zero : (a q : ℤ) → pos 0 ≤ℤ q → neg_ℤ q ≤ℤ (a *ℤ pos 0)
below_zero a q h = let e = mul_zero a in by q (a *ℤ pos 0) h e
  where
    by : (q z : ℤ) → pos 0 ≤ℤ q → z ≡ pos 0 → neg_ℤ q ≤ℤ z
    by q z h e = omega (arith, ints)

pub floor_falls : (a c : ℤ) → pos 0 <ℤ a → floor_over a (neg_ℤ (c *ℤ c)) ≤ℤ pos 0
floor_falls a c h = floor_at_most a (neg_ℤ (c *ℤ c)) (pos 0) h (below_zero a (c *ℤ c) (square_nonneg c))

pub ceil_falls : (a c : ℤ) → pos 0 <ℤ a → (floor_over a (neg_ℤ (c *ℤ c)) +ℤ gap_over a (neg_ℤ (c *ℤ c))) ≤ℤ pos 0
ceil_falls a c h = ceil_at_most a (neg_ℤ (c *ℤ c)) (pos 0) h (below_zero a (c *ℤ c) (square_nonneg c))
