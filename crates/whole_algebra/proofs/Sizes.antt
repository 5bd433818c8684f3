-- What the test of sizes beside a pivot gives.
use Rattle.std.proofs.Common.{◌≡◌, ℕ, zero, suc, Bool, true, false, ◌||◌, List, [], ◌∷◌, refl, sym, ap, arith, ℤ, pos, ◌+ℤ◌, ◌-ℤ◌, ◌*ℤ◌, neg_ℤ, ◌≤ℤ◌, ◌<ℤ◌, int_lt}
use Rattle.std.specs.List.{list_any}
use Rattle.std.proofs.lemmas.Int.{ints}
use Rattle.whole_algebra.specs.Rounding.{floor_over}
use Rattle.whole_algebra.specs.Matrices.{at}
use Rattle.whole_algebra.specs.Chains.{Step, free, pivot, stop, size_limit, is_too_large, step_of}
use Rattle.whole_algebra.proofs.Order.{mul_nonneg, square_nonneg}
use Rattle.whole_algebra.proofs.Rounding.{floor_at_least, floor_at_most}
use Rattle.whole_algebra.proofs.ChainLaws.{step_cases, positive}
use Rattle.whole_algebra.proofs.Normal.{ring, x0, x1, lit, opposite_of, ◌⊕◌, ◌⊖◌, ◌⊗◌}

-- neither of two that are false together
pub or_parts : (t u : Bool) → t || u ≡ false → (t ≡ false) × (u ≡ false)
or_parts true u e = absurd (apart e)
  where
    apart : true ≡ false → ⊥
    apart e = cc
or_parts false u e = (refl, e)

-- no square of the list is above k
pub squares_at_most : (k : ℤ) (b : List ℤ) (i : ℕ) → pos 0 ≤ℤ k → list_any (λ c. int_lt k (c *ℤ c)) b ≡ false → (at b i *ℤ at b i) ≤ℤ k
squares_at_most k [] i h e = omega (arith, ints)
squares_at_most k (c ∷ b) zero h e =
    let p = (or_parts (int_lt k (c *ℤ c)) (list_any (λ d. int_lt k (d *ℤ d)) b) e).0 in
    omega (arith, ints)
squares_at_most k (c ∷ b) (suc i) h e =
    squares_at_most k b i h (or_parts (int_lt k (c *ℤ c)) (list_any (λ d. int_lt k (d *ℤ d)) b) e).1

-- a product is at most the greater square
pub product_within : (p q k : ℤ) → (p *ℤ p) ≤ℤ k → (q *ℤ q) ≤ℤ k → (neg_ℤ k ≤ℤ (p *ℤ q)) × ((p *ℤ q) ≤ℤ k)
product_within p q k h g =
    let s = square_nonneg (p +ℤ q) in
    let d = square_nonneg (p -ℤ q) in
    let e : (p +ℤ q) *ℤ (p +ℤ q) ≡ p *ℤ p +ℤ q *ℤ q +ℤ pos 2 *ℤ (p *ℤ q) = ring ((x0 ⊕ x1) ⊗ (x0 ⊕ x1)) (x0 ⊗ x0 ⊕ x1 ⊗ x1 ⊕ lit 2 ⊗ (x0 ⊗ x1)) (p ∷ q ∷ []) refl in
    let f : (p -ℤ q) *ℤ (p -ℤ q) ≡ p *ℤ p +ℤ q *ℤ q -ℤ pos 2 *ℤ (p *ℤ q) = ring ((x0 ⊖ x1) ⊗ (x0 ⊖ x1)) (x0 ⊗ x0 ⊕ x1 ⊗ x1 ⊖ lit 2 ⊗ (x0 ⊗ x1)) (p ∷ q ∷ []) refl in
    by ((p +ℤ q) *ℤ (p +ℤ q)) ((p -ℤ q) *ℤ (p -ℤ q)) (p *ℤ p) (q *ℤ q) (p *ℤ q) k s d e f h g
  where
    by : (s d u v w k : ℤ) → pos 0 ≤ℤ s → pos 0 ≤ℤ d → s ≡ u +ℤ v +ℤ pos 2 *ℤ w → d ≡ u +ℤ v -ℤ pos 2 *ℤ w → u ≤ℤ k → v ≤ℤ k
        → (neg_ℤ k ≤ℤ w) × (w ≤ℤ k)
    by s d u v w k h1 h2 e f g1 g2 = (omega (arith, ints), omega (arith, ints))

-- what two numbers beside a pivot take off an entry is at most the limit in size
pub taken_within : (a : ℤ) (b : List ℤ) (i j : ℕ) → pos 0 <ℤ a → is_too_large a b ≡ false
    → (neg_ℤ size_limit ≤ℤ floor_over a (neg_ℤ (at b i *ℤ at b j))) × (floor_over a (neg_ℤ (at b i *ℤ at b j)) ≤ℤ size_limit)
taken_within a b i j h e =
    let room = mul_nonneg a size_limit (omega (arith, ints)) (omega (arith, ints)) in
    let p = product_within (at b i) (at b j) (a *ℤ size_limit) (squares_at_most (a *ℤ size_limit) b i room e) (squares_at_most (a *ℤ size_limit) b j room e) in
    let low : a *ℤ neg_ℤ size_limit ≡ neg_ℤ (a *ℤ size_limit) = ring (x0 ⊗ opposite_of x1) (opposite_of (x0 ⊗ x1)) (a ∷ size_limit ∷ []) refl in (
      floor_at_least a (neg_ℤ (at b i *ℤ at b j)) (neg_ℤ size_limit) h (from_low (a *ℤ neg_ℤ size_limit) (at b i *ℤ at b j) (a *ℤ size_limit) low p.1),
      floor_at_most a (neg_ℤ (at b i *ℤ at b j)) size_limit h (from_high (at b i *ℤ at b j) (a *ℤ size_limit) p.0),
    )
  where
    from_low : (l w k : ℤ) → l ≡ neg_ℤ k → w ≤ℤ k → l ≤ℤ neg_ℤ w
    from_low l w k e h = omega (arith, ints)

    from_high : (w k : ℤ) → neg_ℤ k ≤ℤ w → neg_ℤ w ≤ℤ k
    from_high w k h = omega (arith, ints)

pivot_number : Step → ℤ
pivot_number free = pos 0
pivot_number (pivot a) = a
pivot_number (stop v) = pos 0

-- a pivot is above 0, and what stands beside it is not too large
pub pivot-out : (a : ℤ) (b : List ℤ) (v : ℤ) → step_of (a ∷ b) ≡ pivot v → (v ≡ a) × (pos 0 <ℤ a) × (is_too_large a b ≡ false)
unfolding pivot_number
pivot-out a b v e =
    step_cases (λ s. s ≡ pivot v → (v ≡ a) × (pos 0 <ℤ a) × (is_too_large a b ≡ false)) a b
    (λ _ f. absurd (free_is_none f))
    (λ _ _ f. absurd (stop_is_none a f))
    (λ _ _ f. absurd (stop_is_none (neg_ℤ size_limit) f))
    (λ above small f. (sym (ap pivot_number f), positive a above, small))
    e
  where
    free_is_none : free ≡ pivot v → ⊥
    free_is_none f = cc

    stop_is_none : (w : ℤ) → stop w ≡ pivot v → ⊥
    stop_is_none w f = cc

pub pivot_within : (a : ℤ) (b : List ℤ) (v : ℤ) (i j : ℕ) → step_of (a ∷ b) ≡ pivot v
    → (v ≡ a) × (pos 0 <ℤ a) × (neg_ℤ size_limit ≤ℤ floor_over a (neg_ℤ (at b i *ℤ at b j))) × (floor_over a (neg_ℤ (at b i *ℤ at b j)) ≤ℤ size_limit)
pivot_within a b v i j e =
    let p = pivot-out a b v e in
    let q = taken_within a b i j p.1 p.2 in
    (p.0, p.1, q.0, q.1)
