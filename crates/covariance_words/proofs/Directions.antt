-- Variances of one form and of the two coordinates of a point, over numbers in place of vectors.
use Rattle.std.proofs.Common.{◌≡◌, ◌↔◌, ◌==◌, ◌*◌, ℕ, zero, suc, ◌<◌, [], ◌∷◌, if◌then◌else◌, refl, sym, ◌∙◌, ap, subst, arith, ℤ, pos, ◌+ℤ◌, ◌-ℤ◌, ◌*ℤ◌, ◌≤ℤ◌}
use Rattle.std.proofs.lemmas.Int.{ints}
use Rattle.whole_algebra.proofs.Order.{mul_le_mul, square_nonneg}
use Rattle.whole_algebra.proofs.Normal.{ring, x0, x1, x2, x3, x4, x5, lit, ◌⊕◌, ◌⊖◌, ◌⊗◌}
use Rattle.covariance_law.specs.Vectors.{Vector, Matrix, inner, applied, form}
use Rattle.covariance_law.specs.Covariance.{propagated, IsAboveEigenvalues, VarianceIsWithin}
use Rattle.covariance_law.proofs.Sums.{inner_comm, inner-unit}
use Rattle.covariance_law.proofs.Eigenvalues.{eigenvalues_and_forms}
use Rattle.covariance_words.specs.Precision.{square_tenths, standard_ellipse}
use Rattle.covariance_words.specs.Meaning.{AxesAreEigenvalues}

pub le_moved : (a b c d : ℤ) → a ≡ b → c ≡ d → a ≤ℤ c → b ≤ℤ d
le_moved a b c d e f h = omega (arith, ints)

-- ---- the row of one unknown
abbrev pub unit_row : ℕ → Vector
unit_row x = λ j. if x == j then pos 1 else pos 0

pub inner-unit_row : (n x : ℕ) (z : Vector) → x < n → inner n (unit_row x) z ≡ z x
inner-unit_row n x z lt = inner_comm n (unit_row x) z ∙ inner-unit n x (pos 1) z lt ∙ ring (lit 1 ⊗ x0) x0 (z x ∷ []) refl

pub between-units : (n : ℕ) (c : Matrix) (x y : ℕ) → x < n → y < n → inner n (unit_row x) (applied n c (unit_row y)) ≡ c x y
between-units n c x y lt lu = inner-unit_row n x (applied n c (unit_row y)) lt ∙ inner_comm n (c x) (unit_row y) ∙ inner-unit_row n y (c x) lu

-- ---- one form
pub within-one : (n : ℕ) (c : Matrix) (a : Vector) (d alpha beta : ℤ)
    → VarianceIsWithin n 1 c (λ k. a) d alpha beta ↔ ((beta *ℤ inner n a (applied n c a)) ≤ℤ (alpha *ℤ d))
within-one n c a d alpha beta = (down, up)
  where
    v : ℤ
    v = inner n a (applied n c a)

    down : VarianceIsWithin n 1 c (λ k. a) d alpha beta → (beta *ℤ v) ≤ℤ (alpha *ℤ d)
    down within =
        le_moved (beta *ℤ (pos 0 +ℤ pos 1 *ℤ (pos 0 +ℤ v *ℤ pos 1))) (beta *ℤ v) (alpha *ℤ d *ℤ (pos 0 +ℤ pos 1 *ℤ pos 1)) (alpha *ℤ d)
        (ring (x0 ⊗ (lit 0 ⊕ lit 1 ⊗ (lit 0 ⊕ x1 ⊗ lit 1))) (x0 ⊗ x1) (beta ∷ v ∷ []) refl)
        (ring (x0 ⊗ x1 ⊗ (lit 0 ⊕ lit 1 ⊗ lit 1)) (x0 ⊗ x1) (alpha ∷ d ∷ []) refl)
        (within (λ k. pos 1))

    up : (beta *ℤ v) ≤ℤ (alpha *ℤ d) → VarianceIsWithin n 1 c (λ k. a) d alpha beta
    up h u =
        le_moved (u 0 *ℤ u 0 *ℤ (beta *ℤ v)) (beta *ℤ (pos 0 +ℤ u 0 *ℤ (pos 0 +ℤ v *ℤ u 0))) (u 0 *ℤ u 0 *ℤ (alpha *ℤ d)) (alpha *ℤ d *ℤ (pos 0 +ℤ u 0 *ℤ u 0))
        (ring (x2 ⊗ x2 ⊗ (x0 ⊗ x1)) (x0 ⊗ (lit 0 ⊕ x2 ⊗ (lit 0 ⊕ x1 ⊗ x2))) (beta ∷ v ∷ u 0 ∷ []) refl)
        (ring (x2 ⊗ x2 ⊗ (x0 ⊗ x1)) (x0 ⊗ x1 ⊗ (lit 0 ⊕ x2 ⊗ x2)) (alpha ∷ d ∷ u 0 ∷ []) refl)
        (mul_le_mul (u 0 *ℤ u 0) (beta *ℤ v) (alpha *ℤ d) (square_nonneg (u 0)) h)

-- ---- two coordinates
-- two rows
abbrev pub pair : {A : Type 0} → A → A → ℕ → A
pair a b zero = a
pair a b (suc k) = b

-- the form of a matrix of two rows, as it is reckoned
abbrev two : ℤ → ℤ → ℤ → ℤ → ℤ → ℤ → ℤ
two a b c d u v = (pos 0 +ℤ u *ℤ ((pos 0 +ℤ a *ℤ u) +ℤ b *ℤ v)) +ℤ v *ℤ ((pos 0 +ℤ c *ℤ u) +ℤ d *ℤ v)

two-form : (n : ℕ) (c : Matrix) (x y : ℕ) (u : Vector) → x < n → y < n
    → form 2 (propagated n (pair (unit_row x) (unit_row y)) c) u ≡ standard_ellipse c x y (u 0) (u 1)
two-form n c x y u lt lu =
    let p = propagated n (pair (unit_row x) (unit_row y)) c in
    ap (λ t. two t (p 0 1) (p 1 0) (p 1 1) (u 0) (u 1)) (between-units n c x x lt lt)
    ∙ ap (λ t. two (c x x) t (p 1 0) (p 1 1) (u 0) (u 1)) (between-units n c x y lt lu)
    ∙ ap (λ t. two (c x x) (c x y) t (p 1 1) (u 0) (u 1)) (between-units n c y x lu lt)
    ∙ ap (λ t. two (c x x) (c x y) (c y x) t (u 0) (u 1)) (between-units n c y y lu lu)
    ∙ ring ((lit 0 ⊕ x4 ⊗ ((lit 0 ⊕ x0 ⊗ x4) ⊕ x1 ⊗ x5)) ⊕ x5 ⊗ ((lit 0 ⊕ x2 ⊗ x4) ⊕ x3 ⊗ x5))
    (x0 ⊗ (x4 ⊗ x4) ⊕ (x1 ⊕ x2) ⊗ (x4 ⊗ x5) ⊕ x3 ⊗ (x5 ⊗ x5))
    (c x x ∷ c x y ∷ c y x ∷ c y y ∷ u 0 ∷ u 1 ∷ []) refl

pub within-axes : (n : ℕ) (c : Matrix) (d alpha beta : ℤ) (x y : ℕ) → x < n → y < n
    → VarianceIsWithin n 2 c (pair (unit_row x) (unit_row y)) d alpha beta
    ↔ ((u v : ℤ) → (beta *ℤ standard_ellipse c x y u v) ≤ℤ (alpha *ℤ d *ℤ (u *ℤ u +ℤ v *ℤ v)))
within-axes n c d alpha beta x y lt lu = (down, up)
  where
    p : Matrix
    p = propagated n (pair (unit_row x) (unit_row y)) c

    lengths : (u : Vector) → alpha *ℤ d *ℤ inner 2 u u ≡ alpha *ℤ d *ℤ (u 0 *ℤ u 0 +ℤ u 1 *ℤ u 1)
    lengths u = ring (x0 ⊗ ((lit 0 ⊕ x1 ⊗ x1) ⊕ x2 ⊗ x2)) (x0 ⊗ (x1 ⊗ x1 ⊕ x2 ⊗ x2)) ((alpha *ℤ d) ∷ u 0 ∷ u 1 ∷ []) refl

    down : VarianceIsWithin n 2 c (pair (unit_row x) (unit_row y)) d alpha beta
        → (u v : ℤ) → (beta *ℤ standard_ellipse c x y u v) ≤ℤ (alpha *ℤ d *ℤ (u *ℤ u +ℤ v *ℤ v))
    down within u v =
        le_moved (beta *ℤ form 2 p (pair u v)) (beta *ℤ standard_ellipse c x y u v) (alpha *ℤ d *ℤ inner 2 (pair u v) (pair u v)) (alpha *ℤ d *ℤ (u *ℤ u +ℤ v *ℤ v))
        (ap (λ t. beta *ℤ t) (two-form n c x y (pair u v) lt lu)) (lengths (pair u v)) (within (pair u v))

    up : ((u v : ℤ) → (beta *ℤ standard_ellipse c x y u v) ≤ℤ (alpha *ℤ d *ℤ (u *ℤ u +ℤ v *ℤ v)))
        → VarianceIsWithin n 2 c (pair (unit_row x) (unit_row y)) d alpha beta
    up within u =
        let e = lengths u in
        let f = ap (λ t. beta *ℤ t) (two-form n c x y u lt lu) in
        back (beta *ℤ form 2 p u) (beta *ℤ standard_ellipse c x y (u 0) (u 1)) (alpha *ℤ d *ℤ inner 2 u u) (alpha *ℤ d *ℤ (u 0 *ℤ u 0 +ℤ u 1 *ℤ u 1)) f e (within (u 0) (u 1))
      where
        back : (a b c d : ℤ) → a ≡ b → c ≡ d → b ≤ℤ d → a ≤ℤ c
        back a b c d e f h = omega (arith, ints)

-- the bound in every direction is one on the eigenvalues
pub axes-eigenvalues : AxesAreEigenvalues
axes-eigenvalues c d x y s = (
  λ h. law.0 (λ u v. subst (λ t. t ≤ℤ (l *ℤ (u *ℤ u +ℤ v *ℤ v))) (spread u v) (h u v)),
  λ is u v. subst (λ t. t ≤ℤ (l *ℤ (u *ℤ u +ℤ v *ℤ v))) (sym (spread u v)) (law.1 is u v),
)
  where
    k : ℤ
    k = square_tenths

    l : ℤ
    l = pos (s * s) *ℤ d

    law : ((u v : ℤ) → (k *ℤ c x x *ℤ (u *ℤ u) +ℤ k *ℤ (c x y +ℤ c y x) *ℤ (u *ℤ v) +ℤ k *ℤ c y y *ℤ (v *ℤ v)) ≤ℤ (l *ℤ (u *ℤ u +ℤ v *ℤ v)))
        ↔ IsAboveEigenvalues (k *ℤ c x x) (k *ℤ (c x y +ℤ c y x)) (k *ℤ c y y) l
    law = eigenvalues_and_forms (k *ℤ c x x) (k *ℤ (c x y +ℤ c y x)) (k *ℤ c y y) l

    spread : (u v : ℤ)
        → k *ℤ standard_ellipse c x y u v ≡ k *ℤ c x x *ℤ (u *ℤ u) +ℤ k *ℤ (c x y +ℤ c y x) *ℤ (u *ℤ v) +ℤ k *ℤ c y y *ℤ (v *ℤ v)
    spread u v = numbers k (c x x) (c x y +ℤ c y x) (c y y) u v
      where
        numbers : (k a b c u v : ℤ) → k *ℤ (a *ℤ (u *ℤ u) +ℤ b *ℤ (u *ℤ v) +ℤ c *ℤ (v *ℤ v)) ≡ k *ℤ a *ℤ (u *ℤ u) +ℤ k *ℤ b *ℤ (u *ℤ v) +ℤ k *ℤ c *ℤ (v *ℤ v)
        numbers k a b c u v =
            ring (x0 ⊗ (x1 ⊗ (x4 ⊗ x4) ⊕ x2 ⊗ (x4 ⊗ x5) ⊕ x3 ⊗ (x5 ⊗ x5))) (x0 ⊗ x1 ⊗ (x4 ⊗ x4) ⊕ x0 ⊗ x2 ⊗ (x4 ⊗ x5) ⊕ x0 ⊗ x3 ⊗ (x5 ⊗ x5))
            (k ∷ a ∷ b ∷ c ∷ u ∷ v ∷ []) refl

-- ---- the redundancy number and its complement
pub complement : (q d w v : ℤ) → ((pos 1000 *ℤ w) *ℤ v) ≤ℤ ((pos 1000 -ℤ q) *ℤ d) ↔ ((q *ℤ d) ≤ℤ (pos 1000 *ℤ (d -ℤ w *ℤ v)))
complement q d w v = (down, up)
  where
    left : (pos 1000 -ℤ q) *ℤ d ≡ pos 1000 *ℤ d -ℤ q *ℤ d
    left = ring ((lit 1000 ⊖ x0) ⊗ x1) (lit 1000 ⊗ x1 ⊖ x0 ⊗ x1) (q ∷ d ∷ []) refl

    right : pos 1000 *ℤ (d -ℤ w *ℤ v) ≡ pos 1000 *ℤ d -ℤ (pos 1000 *ℤ w) *ℤ v
    right = ring (lit 1000 ⊗ (x0 ⊖ x1 ⊗ x2)) (lit 1000 ⊗ x0 ⊖ (lit 1000 ⊗ x1) ⊗ x2) (d ∷ w ∷ v ∷ []) refl

    turn : (a b t l r : ℤ) → l ≡ t -ℤ b → r ≡ t -ℤ a → a ≤ℤ l → b ≤ℤ r
    turn a b t l r e f h = omega (arith, ints)

    down : ((pos 1000 *ℤ w) *ℤ v) ≤ℤ ((pos 1000 -ℤ q) *ℤ d) → (q *ℤ d) ≤ℤ (pos 1000 *ℤ (d -ℤ w *ℤ v))
    down h = turn ((pos 1000 *ℤ w) *ℤ v) (q *ℤ d) (pos 1000 *ℤ d) ((pos 1000 -ℤ q) *ℤ d) (pos 1000 *ℤ (d -ℤ w *ℤ v)) left right h

    up : (q *ℤ d) ≤ℤ (pos 1000 *ℤ (d -ℤ w *ℤ v)) → ((pos 1000 *ℤ w) *ℤ v) ≤ℤ ((pos 1000 -ℤ q) *ℤ d)
    up h = turn (q *ℤ d) ((pos 1000 *ℤ w) *ℤ v) (pos 1000 *ℤ d) (pos 1000 *ℤ (d -ℤ w *ℤ v)) ((pos 1000 -ℤ q) *ℤ d) right left h
