-- The greatest value of a form of two variables: with p = l - a and r = l - c the difference p u^2 - b u v + r v^2 is
-- nowhere negative exactly where p and r aren't and b^2 is at most 4 p r. From it 4 p times the difference is the sum of
-- (2 p u - b v)^2 and (4 p r - b^2) v^2; where p is 0, so is b.
use Rattle.std.proofs.Common.{◌≡◌, [], ◌∷◌, refl, sym, ◌∙◌, ap, subst, arith, ℤ, pos, ◌+ℤ◌, ◌-ℤ◌, ◌*ℤ◌, neg_ℤ, ◌≤ℤ◌}
use Rattle.std.proofs.lemmas.Int.{ints, by_lt_z}
use Rattle.whole_algebra.proofs.Order.{add_nonneg, mul_nonneg, mul_pos, nonneg_of_mul, square_nonneg}
use Rattle.whole_algebra.proofs.Normal.{ring, x0, x1, x2, x3, x4, x5, lit, opposite_of, ◌⊕◌, ◌⊖◌, ◌⊗◌}
use Rattle.covariance_law.specs.Covariance.{IsAboveEigenvalues, EigenvaluesBoundForms}
use Rattle.covariance_law.proofs.Cauchy.{binary, cauchy, zero-of-square}

-- the form, and what it lacks to l times the square of the length
abbrev value : ℤ → ℤ → ℤ → ℤ → ℤ → ℤ
value a b c u v = a *ℤ (u *ℤ u) +ℤ b *ℤ (u *ℤ v) +ℤ c *ℤ (v *ℤ v)

abbrev lack : ℤ → ℤ → ℤ → ℤ → ℤ → ℤ
lack p b r u v = p *ℤ (u *ℤ u) -ℤ b *ℤ (u *ℤ v) +ℤ r *ℤ (v *ℤ v)

lack-is : (a b c l u v : ℤ) → l *ℤ (u *ℤ u +ℤ v *ℤ v) ≡ value a b c u v +ℤ lack (l -ℤ a) b (l -ℤ c) u v
lack-is a b c l u v =
    ring (x3 ⊗ (x4 ⊗ x4 ⊕ x5 ⊗ x5))
    ((x0 ⊗ (x4 ⊗ x4) ⊕ x1 ⊗ (x4 ⊗ x5) ⊕ x2 ⊗ (x5 ⊗ x5)) ⊕ ((x3 ⊖ x0) ⊗ (x4 ⊗ x4) ⊖ x1 ⊗ (x4 ⊗ x5) ⊕ (x3 ⊖ x2) ⊗ (x5 ⊗ x5)))
    (a ∷ b ∷ c ∷ l ∷ u ∷ v ∷ []) refl

-- ---- a bounded form has bounded eigenvalues
bounded-lack : (a b c l u v : ℤ) → value a b c u v ≤ℤ (l *ℤ (u *ℤ u +ℤ v *ℤ v)) → pos 0 ≤ℤ lack (l -ℤ a) b (l -ℤ c) u v
bounded-lack a b c l u v h = let e = lack-is a b c l u v in less (value a b c u v) (lack (l -ℤ a) b (l -ℤ c) u v) (l *ℤ (u *ℤ u +ℤ v *ℤ v)) e h
  where
    less : (f g t : ℤ) → t ≡ f +ℤ g → f ≤ℤ t → pos 0 ≤ℤ g
    less f g t e h = omega (arith, ints)

first-lack : (p b r : ℤ) → lack p b r (pos 1) (pos 0) ≡ p
first-lack p b r = ring (x0 ⊗ (lit 1 ⊗ lit 1) ⊖ x1 ⊗ (lit 1 ⊗ lit 0) ⊕ x2 ⊗ (lit 0 ⊗ lit 0)) x0 (p ∷ b ∷ r ∷ []) refl

last-lack : (p b r : ℤ) → lack p b r (pos 0) (pos 1) ≡ r
last-lack p b r = ring (x0 ⊗ (lit 0 ⊗ lit 0) ⊖ x1 ⊗ (lit 0 ⊗ lit 1) ⊕ x2 ⊗ (lit 1 ⊗ lit 1)) x2 (p ∷ b ∷ r ∷ []) refl

discriminant : (p b r : ℤ) → ((u v : ℤ) → pos 0 ≤ℤ lack p b r u v) → (b *ℤ b) ≤ℤ (pos 4 *ℤ (p *ℤ r))
discriminant p b r h =
    let least = cauchy (pos 2 *ℤ p) (neg_ℤ b) (pos 2 *ℤ r) (λ u v. subst (λ t. pos 0 ≤ℤ t) (doubled u v) (mul_nonneg (pos 2) (lack p b r u v) (omega (arith, ints)) (h u v))) in
    let e : neg_ℤ b *ℤ neg_ℤ b ≡ b *ℤ b = ring (opposite_of x0 ⊗ opposite_of x0) (x0 ⊗ x0) (b ∷ []) refl in
    let f : pos 2 *ℤ p *ℤ (pos 2 *ℤ r) ≡ pos 4 *ℤ (p *ℤ r) = ring (lit 2 ⊗ x0 ⊗ (lit 2 ⊗ x1)) (lit 4 ⊗ (x0 ⊗ x1)) (p ∷ r ∷ []) refl in
    subst (λ t. (b *ℤ b) ≤ℤ t) f (subst (λ t. t ≤ℤ (pos 2 *ℤ p *ℤ (pos 2 *ℤ r))) e least)
  where
    doubled : (u v : ℤ) → pos 2 *ℤ lack p b r u v ≡ binary (pos 2 *ℤ p) (neg_ℤ b) (pos 2 *ℤ r) u v
    doubled u v =
        ring (lit 2 ⊗ (x0 ⊗ (x3 ⊗ x3) ⊖ x1 ⊗ (x3 ⊗ x4) ⊕ x2 ⊗ (x4 ⊗ x4)))
        (lit 2 ⊗ x0 ⊗ (x3 ⊗ x3) ⊕ lit 2 ⊗ (opposite_of x1 ⊗ (x3 ⊗ x4)) ⊕ lit 2 ⊗ x2 ⊗ (x4 ⊗ x4))
        (p ∷ b ∷ r ∷ u ∷ v ∷ []) refl

-- ---- bounded eigenvalues bound the form
lack-nonneg : (p b r : ℤ) → pos 0 ≤ℤ p → pos 0 ≤ℤ r → (b *ℤ b) ≤ℤ (pos 4 *ℤ (p *ℤ r)) → (u v : ℤ) → pos 0 ≤ℤ lack p b r u v
lack-nonneg p b r low_p low_r low u v =
    by_lt_z (pos 0) p
    (λ positive.
    let rest = mul_nonneg (pos 4 *ℤ (p *ℤ r) -ℤ b *ℤ b) (v *ℤ v) (omega (arith, ints)) (square_nonneg v) in
    let square = square_nonneg (pos 2 *ℤ p *ℤ u -ℤ b *ℤ v) in
    nonneg_of_mul (pos 4 *ℤ p) (lack p b r u v) (mul_pos (pos 4) p (omega (arith, ints)) positive)
    (subst (λ t. pos 0 ≤ℤ t) (completed p b r u v)
    (add_nonneg ((pos 2 *ℤ p *ℤ u -ℤ b *ℤ v) *ℤ (pos 2 *ℤ p *ℤ u -ℤ b *ℤ v)) ((pos 4 *ℤ (p *ℤ r) -ℤ b *ℤ b) *ℤ (v *ℤ v)) square rest)))
    (λ none.
    let p_is : p ≡ pos 0 = omega (arith, ints) in
    let product : pos 4 *ℤ (p *ℤ r) ≡ pos 0 = ap (λ t. pos 4 *ℤ (t *ℤ r)) p_is ∙ ring (lit 4 ⊗ (lit 0 ⊗ x0)) (lit 0) (r ∷ []) refl in
    let b_is : b ≡ pos 0 = zero-of-square b (omega (arith, ints)) in
    let e : lack p b r u v ≡ r *ℤ (v *ℤ v) =
    ap (λ t. lack t b r u v) p_is ∙ ap (λ t. lack (pos 0) t r u v) b_is
    ∙ ring (lit 0 ⊗ (x1 ⊗ x1) ⊖ lit 0 ⊗ (x1 ⊗ x2) ⊕ x0 ⊗ (x2 ⊗ x2)) (x0 ⊗ (x2 ⊗ x2)) (r ∷ u ∷ v ∷ []) refl in
    subst (λ t. pos 0 ≤ℤ t) (sym e) (mul_nonneg r (v *ℤ v) low_r (square_nonneg v)))
  where
    completed : (p b r u v : ℤ)
        → (pos 2 *ℤ p *ℤ u -ℤ b *ℤ v) *ℤ (pos 2 *ℤ p *ℤ u -ℤ b *ℤ v) +ℤ (pos 4 *ℤ (p *ℤ r) -ℤ b *ℤ b) *ℤ (v *ℤ v) ≡ pos 4 *ℤ p *ℤ lack p b r u v
    completed p b r u v =
        ring ((lit 2 ⊗ x0 ⊗ x3 ⊖ x1 ⊗ x4) ⊗ (lit 2 ⊗ x0 ⊗ x3 ⊖ x1 ⊗ x4) ⊕ (lit 4 ⊗ (x0 ⊗ x2) ⊖ x1 ⊗ x1) ⊗ (x4 ⊗ x4))
        (lit 4 ⊗ x0 ⊗ (x0 ⊗ (x3 ⊗ x3) ⊖ x1 ⊗ (x3 ⊗ x4) ⊕ x2 ⊗ (x4 ⊗ x4)))
        (p ∷ b ∷ r ∷ u ∷ v ∷ []) refl

pub eigenvalues_and_forms : EigenvaluesBoundForms
eigenvalues_and_forms a b c l = (down, up)
  where
    down : ((u v : ℤ) → value a b c u v ≤ℤ (l *ℤ (u *ℤ u +ℤ v *ℤ v))) → IsAboveEigenvalues a b c l
    down h =
        let least = λ (u v : ℤ). bounded-lack a b c l u v (h u v) in
        let p = subst (λ t. pos 0 ≤ℤ t) (first-lack (l -ℤ a) b (l -ℤ c)) (least (pos 1) (pos 0)) in
        let r = subst (λ t. pos 0 ≤ℤ t) (last-lack (l -ℤ a) b (l -ℤ c)) (least (pos 0) (pos 1)) in
        record { first = omega (arith, ints); last = omega (arith, ints); polynomial = discriminant (l -ℤ a) b (l -ℤ c) least }

    up : IsAboveEigenvalues a b c l → (u v : ℤ) → value a b c u v ≤ℤ (l *ℤ (u *ℤ u +ℤ v *ℤ v))
    up is u v =
        let first = is.first in
        let last = is.last in
        let least = lack-nonneg (l -ℤ a) b (l -ℤ c) (omega (arith, ints)) (omega (arith, ints)) is.polynomial u v in
        more (value a b c u v) (lack (l -ℤ a) b (l -ℤ c) u v) (l *ℤ (u *ℤ u +ℤ v *ℤ v)) (lack-is a b c l u v) least
      where
        more : (f g t : ℤ) → t ≡ f +ℤ g → pos 0 ≤ℤ g → f ≤ℤ t
        more f g t e h = omega (arith, ints)
