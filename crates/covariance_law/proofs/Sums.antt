-- Sums over the numbers below n.
use Rattle.std.proofs.Common.{◌≡◌, ◌==◌, if◌then◌else◌, ◌≢◌, ℕ, zero, suc, ◌<◌, ◌≤◌, Bool, true, false, [], ◌∷◌, refl, sym, ◌∙◌, ap, ap₂, arith, eqb-true, ℤ, pos, ◌+ℤ◌, ◌*ℤ◌, ◌≤ℤ◌}
use Rattle.std.proofs.lemmas.Bool.{eqb-false}
use Rattle.whole_algebra.proofs.Ring.{mul_comm, mul_zero}
use Rattle.whole_algebra.proofs.Order.{add_nonneg, le_refl}
use Rattle.whole_algebra.proofs.Normal.{ring, x0, x1, x2, x3, x4, x5, x6, lit, ◌⊕◌, ◌⊗◌}
use Rattle.covariance_law.specs.Vectors.{Vector, vector_sum, inner}

-- functions that agree below n have one sum
pub vector_sum-same : (n : ℕ) (f g : ℕ → ℤ) → ((i : ℕ) → i < n → f i ≡ g i) → vector_sum n f ≡ vector_sum n g
vector_sum-same zero f g h = refl
vector_sum-same (suc n) f g h = ap₂ (λ s t. s +ℤ t) (vector_sum-same n f g (λ i lt. h i (omega arith))) (h n (omega arith))

pub vector_sum-zero : (n : ℕ) → vector_sum n (λ i. pos 0) ≡ pos 0
vector_sum-zero zero = refl
vector_sum-zero (suc n) = ap (λ t. t +ℤ pos 0) (vector_sum-zero n)

pub vector_sum-add : (n : ℕ) (f g : ℕ → ℤ) → vector_sum n (λ i. f i +ℤ g i) ≡ vector_sum n f +ℤ vector_sum n g
vector_sum-add zero f g = refl
vector_sum-add (suc n) f g =
    ap (λ t. t +ℤ (f n +ℤ g n)) (vector_sum-add n f g)
    ∙ ring ((x0 ⊕ x1) ⊕ (x2 ⊕ x3)) ((x0 ⊕ x2) ⊕ (x1 ⊕ x3)) (vector_sum n f ∷ vector_sum n g ∷ f n ∷ g n ∷ []) refl

pub vector_sum-scale : (n : ℕ) (a : ℤ) (f : ℕ → ℤ) → vector_sum n (λ i. a *ℤ f i) ≡ a *ℤ vector_sum n f
vector_sum-scale zero a f = sym (mul_zero a)
vector_sum-scale (suc n) a f =
    ap (λ t. t +ℤ a *ℤ f n) (vector_sum-scale n a f)
    ∙ ring (x0 ⊗ x1 ⊕ x0 ⊗ x2) (x0 ⊗ (x1 ⊕ x2)) (a ∷ vector_sum n f ∷ f n ∷ []) refl

-- two sums change places
pub vector_sum-swap : (m n : ℕ) (f : ℕ → ℕ → ℤ) → vector_sum m (λ i. vector_sum n (λ j. f i j)) ≡ vector_sum n (λ j. vector_sum m (λ i. f i j))
vector_sum-swap zero n f = sym (vector_sum-zero n)
vector_sum-swap (suc m) n f =
    ap (λ t. t +ℤ vector_sum n (λ j. f m j)) (vector_sum-swap m n f)
    ∙ sym (vector_sum-add n (λ j. vector_sum m (λ i. f i j)) (λ j. f m j))

pub vector_sum-nonneg : (n : ℕ) (f : ℕ → ℤ) → ((i : ℕ) → pos 0 ≤ℤ f i) → pos 0 ≤ℤ vector_sum n f
vector_sum-nonneg zero f h = le_refl (pos 0)
vector_sum-nonneg (suc n) f h = add_nonneg (vector_sum n f) (f n) (vector_sum-nonneg n f h) (h n)

-- ---- products
pub inner_comm : (n : ℕ) (x y : Vector) → inner n x y ≡ inner n y x
inner_comm n x y = vector_sum-same n (λ i. x i *ℤ y i) (λ i. y i *ℤ x i) (λ i lt. mul_comm (x i) (y i))

pub inner-same : (n : ℕ) (x y z : Vector) → ((i : ℕ) → i < n → y i ≡ z i) → inner n x y ≡ inner n x z
inner-same n x y z h = vector_sum-same n (λ i. x i *ℤ y i) (λ i. x i *ℤ z i) (λ i lt. ap (λ t. x i *ℤ t) (h i lt))

pub inner-scale : (n : ℕ) (a : ℤ) (x y : Vector) → inner n x (λ i. a *ℤ y i) ≡ a *ℤ inner n x y
inner-scale n a x y =
    vector_sum-same n (λ i. x i *ℤ (a *ℤ y i)) (λ i. a *ℤ (x i *ℤ y i)) (λ i lt. ring (x1 ⊗ (x0 ⊗ x2)) (x0 ⊗ (x1 ⊗ x2)) (a ∷ x i ∷ y i ∷ []) refl)
    ∙ vector_sum-scale n a (λ i. x i *ℤ y i)

pub inner-linear : (n : ℕ) (s t : ℤ) (z a b : Vector) → inner n z (λ i. s *ℤ a i +ℤ t *ℤ b i) ≡ s *ℤ inner n z a +ℤ t *ℤ inner n z b
inner-linear zero s t z a b = ring (lit 0) (x0 ⊗ lit 0 ⊕ x1 ⊗ lit 0) (s ∷ t ∷ []) refl
inner-linear (suc n) s t z a b =
    ap (λ w. w +ℤ z n *ℤ (s *ℤ a n +ℤ t *ℤ b n)) (inner-linear n s t z a b)
    ∙ ring (x0 ⊗ x5 ⊕ x1 ⊗ x6 ⊕ x2 ⊗ (x0 ⊗ x3 ⊕ x1 ⊗ x4)) (x0 ⊗ (x5 ⊕ x2 ⊗ x3) ⊕ x1 ⊗ (x6 ⊕ x2 ⊗ x4))
    (s ∷ t ∷ z n ∷ a n ∷ b n ∷ inner n z a ∷ inner n z b ∷ []) refl

-- a row of d times the unit matrix
unit_past : (n i : ℕ) (d : ℤ) (x : Vector) → n ≤ i → inner n x (λ j. if i == j then d else pos 0) ≡ pos 0
unit_past zero i d x le = refl
unit_past (suc n) i d x le = ap₂ (λ s t. s +ℤ t) (unit_past n i d x (omega arith)) (by (i == n) refl)
  where
    by : (t : Bool) → (i == n) ≡ t → x n *ℤ (if t then d else pos 0) ≡ pos 0
    by true e = let same : i ≡ n = eqb-true i n e in absurd (omega arith)
    by false e = mul_zero (x n)

pub inner-unit : (n i : ℕ) (d : ℤ) (x : Vector) → i < n → inner n x (λ j. if i == j then d else pos 0) ≡ d *ℤ x i
inner-unit zero i d x lt = absurd (omega arith)
inner-unit (suc n) i d x lt = by (i == n) refl (λ below. inner-unit n i d x below)
  where
    by : (t : Bool) → (i == n) ≡ t → (i < n → inner n x (λ j. if i == j then d else pos 0) ≡ d *ℤ x i)
        → inner n x (λ j. if i == j then d else pos 0) +ℤ x n *ℤ (if t then d else pos 0) ≡ d *ℤ x i
    by true e earlier =
        let same : i ≡ n = eqb-true i n e in
        ap (λ w. w +ℤ x n *ℤ d) (unit_past n i d x (omega arith))
        ∙ ring (lit 0 ⊕ x1 ⊗ x0) (x0 ⊗ x1) (d ∷ x n ∷ []) refl
        ∙ ap (λ k. d *ℤ x k) (sym same)
    by false e earlier =
        let other : i ≢ n = eqb-false i n e in
        ap (λ w. w +ℤ x n *ℤ pos 0) (earlier (omega arith))
        ∙ ring (x0 ⊗ x1 ⊕ x2 ⊗ lit 0) (x0 ⊗ x1) (d ∷ x i ∷ x n ∷ []) refl
