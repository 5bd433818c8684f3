-- The inequality of Cauchy and Schwarz for whole numbers: where a s^2 + 2 b s t + c t^2 is negative at no whole s and t,
-- b^2 is at most a c. For c above 0 take s = c and t = -b, for c = 0 take s = 1 and t = -(a + 1) b.
use Rattle.std.proofs.Common.{◌≡◌, [], ◌∷◌, refl, ◌∙◌, ap, subst, arith, ℤ, pos, ◌+ℤ◌, ◌-ℤ◌, ◌*ℤ◌, neg_ℤ, ◌≤ℤ◌}
use Rattle.std.proofs.lemmas.Int.{ints, by_lt_z}
use Rattle.whole_algebra.proofs.Ring.{mul_zero}
use Rattle.whole_algebra.proofs.Order.{mul_pos, mul_nonneg, square_nonneg, nonneg_of_mul}
use Rattle.whole_algebra.proofs.Normal.{ring, x0, x1, x2, lit, opposite_of, ◌⊕◌, ◌⊖◌, ◌⊗◌}

abbrev pub binary : ℤ → ℤ → ℤ → ℤ → ℤ → ℤ
binary a b c s t = a *ℤ (s *ℤ s) +ℤ pos 2 *ℤ (b *ℤ (s *ℤ t)) +ℤ c *ℤ (t *ℤ t)

square_gone : (b : ℤ) (k : ℤ) → pos 0 ≤ℤ k → pos 0 ≤ℤ (k -ℤ pos 2 *ℤ ((k +ℤ pos 1) *ℤ (b *ℤ b))) → b *ℤ b ≡ pos 0
square_gone b k h e =
    by_lt_z (pos 0) (b *ℤ b)
    (λ positive.
    let f = mul_nonneg (k +ℤ pos 1) (b *ℤ b -ℤ pos 1) (omega (arith, ints)) (omega (arith, ints)) in
    let g : (k +ℤ pos 1) *ℤ (b *ℤ b -ℤ pos 1) ≡ (k +ℤ pos 1) *ℤ (b *ℤ b) -ℤ (k +ℤ pos 1) =
    ring ((x0 ⊕ lit 1) ⊗ (x1 ⊗ x1 ⊖ lit 1)) ((x0 ⊕ lit 1) ⊗ (x1 ⊗ x1) ⊖ (x0 ⊕ lit 1)) (k ∷ b ∷ []) refl in
    absurd (omega (arith, ints)))
    (λ none. let f = square_nonneg b in omega (arith, ints))

pub cauchy : (a b c : ℤ) → ((s t : ℤ) → pos 0 ≤ℤ binary a b c s t) → (b *ℤ b) ≤ℤ (a *ℤ c)
cauchy a b c h =
    by_lt_z (pos 0) c
    (λ positive.
    let e : binary a b c c (neg_ℤ b) ≡ c *ℤ (a *ℤ c -ℤ b *ℤ b) =
    ring (x0 ⊗ (x2 ⊗ x2) ⊕ lit 2 ⊗ (x1 ⊗ (x2 ⊗ opposite_of x1)) ⊕ x2 ⊗ (opposite_of x1 ⊗ opposite_of x1)) (x2 ⊗ (x0 ⊗ x2 ⊖ x1 ⊗ x1)) (a ∷ b ∷ c ∷ []) refl in
    let f = nonneg_of_mul c (a *ℤ c -ℤ b *ℤ b) positive (subst (λ t. pos 0 ≤ℤ t) e (h c (neg_ℤ b))) in
    omega (arith, ints))
    (λ none.
    let high : binary a b c (pos 0) (pos 1) ≡ c = ring (x0 ⊗ (lit 0 ⊗ lit 0) ⊕ lit 2 ⊗ (x1 ⊗ (lit 0 ⊗ lit 1)) ⊕ x2 ⊗ (lit 1 ⊗ lit 1)) x2 (a ∷ b ∷ c ∷ []) refl in
    let low : binary a b c (pos 1) (pos 0) ≡ a = ring (x0 ⊗ (lit 1 ⊗ lit 1) ⊕ lit 2 ⊗ (x1 ⊗ (lit 1 ⊗ lit 0)) ⊕ x2 ⊗ (lit 0 ⊗ lit 0)) x0 (a ∷ b ∷ c ∷ []) refl in
    let above = subst (λ t. pos 0 ≤ℤ t) high (h (pos 0) (pos 1)) in
    let first = subst (λ t. pos 0 ≤ℤ t) low (h (pos 1) (pos 0)) in
    let zero_c : c ≡ pos 0 = omega (arith, ints) in
    let t = neg_ℤ ((a +ℤ pos 1) *ℤ b) in
    let e : binary a b (pos 0) (pos 1) t ≡ a -ℤ pos 2 *ℤ ((a +ℤ pos 1) *ℤ (b *ℤ b)) =
    ring (x0 ⊗ (lit 1 ⊗ lit 1) ⊕ lit 2 ⊗ (x1 ⊗ (lit 1 ⊗ opposite_of ((x0 ⊕ lit 1) ⊗ x1))) ⊕ lit 0 ⊗ (opposite_of ((x0 ⊕ lit 1) ⊗ x1) ⊗ opposite_of ((x0 ⊕ lit 1) ⊗ x1)))
    (x0 ⊖ lit 2 ⊗ ((x0 ⊕ lit 1) ⊗ (x1 ⊗ x1))) (a ∷ b ∷ []) refl in
    let at_zero : pos 0 ≤ℤ binary a b (pos 0) (pos 1) t = subst (λ z. pos 0 ≤ℤ binary a b z (pos 1) t) zero_c (h (pos 1) t) in
    let gone = square_gone b a first (subst (λ z. pos 0 ≤ℤ z) e at_zero) in
    let side : a *ℤ c ≡ pos 0 = ap (λ z. a *ℤ z) zero_c ∙ mul_zero a in
    omega (arith, ints))

-- a number whose square isn't above 0 is 0
pub zero-of-square : (a : ℤ) → (a *ℤ a) ≤ℤ pos 0 → a ≡ pos 0
zero-of-square a h =
    by_lt_z (pos 0) a
    (λ positive. let p = mul_pos a a positive positive in absurd (omega (arith, ints)))
    (λ most. by_lt_z a (pos 0)
    (λ negative.
    let p = mul_pos (neg_ℤ a) (neg_ℤ a) (omega (arith, ints)) (omega (arith, ints)) in
    let e : neg_ℤ a *ℤ neg_ℤ a ≡ a *ℤ a = ring (opposite_of x0 ⊗ opposite_of x0) (x0 ⊗ x0) (a ∷ []) refl in
    absurd (omega (arith, ints)))
    (λ least. omega (arith, ints)))
