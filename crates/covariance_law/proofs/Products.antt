-- Products of vectors and matrices: a matrix moved to the other side, an inverse undone, and forms of sums.
use Rattle.std.proofs.Common.{◌≡◌, ◌==◌, if◌then◌else◌, ℕ, ◌<◌, [], ◌∷◌, refl, sym, ◌∙◌, ap, ap₂, ℤ, pos, ◌+ℤ◌, ◌*ℤ◌}
use Rattle.whole_algebra.proofs.Normal.{ring, x0, x1, x2, x3, x4, lit, ◌⊕◌, ◌⊗◌}
use Rattle.covariance_law.specs.Vectors.{Vector, Matrix, vector_sum, inner, applied, form}
use Rattle.covariance_law.specs.Covariance.{IsInverse, propagated}
use Rattle.covariance_law.proofs.Sums.{vector_sum-same, vector_sum-scale, vector_sum-swap, inner_comm, inner-same, inner-linear, inner-unit}

-- the rows of g put together with the factors u: the vector g' u
abbrev pub combined : ℕ → Matrix → Vector → Vector
combined p g u = λ i. inner p u (λ k. g k i)

-- u' (g x) is (g' u)' x
pub moved : (p n : ℕ) (g : Matrix) (u x : Vector) → inner p u (applied n g x) ≡ inner n (combined p g u) x
moved p n g u x =
    vector_sum-same p (λ k. u k *ℤ inner n (g k) x) (λ k. vector_sum n (λ i. u k *ℤ (g k i *ℤ x i)))
    (λ k lt. sym (vector_sum-scale n (u k) (λ i. g k i *ℤ x i)))
    ∙ vector_sum-swap p n (λ k i. u k *ℤ (g k i *ℤ x i))
    ∙ vector_sum-same n (λ i. vector_sum p (λ k. u k *ℤ (g k i *ℤ x i))) (λ i. inner p u (λ k. g k i) *ℤ x i)
    (λ i lt. vector_sum-same p (λ k. u k *ℤ (g k i *ℤ x i)) (λ k. x i *ℤ (u k *ℤ g k i)) (λ k inside. ring (x0 ⊗ (x1 ⊗ x2)) (x2 ⊗ (x0 ⊗ x1)) (u k ∷ g k i ∷ x i ∷ []) refl)
    ∙ vector_sum-scale p (x i) (λ k. u k *ℤ g k i)
    ∙ ring (x0 ⊗ x1) (x1 ⊗ x0) (x i ∷ inner p u (λ k. g k i) ∷ []) refl)

-- a symmetric matrix stands between two vectors either way round
pub between_comm : (n : ℕ) (m : Matrix) (x y : Vector) → ((i j : ℕ) → i < n → j < n → m i j ≡ m j i) → inner n x (applied n m y) ≡ inner n y (applied n m x)
between_comm n m x y symmetric =
    moved n n m x y
    ∙ inner_comm n (combined n m x) y
    ∙ inner-same n y (combined n m x) (applied n m x)
    (λ i lt. inner_comm n x (λ k. m k i) ∙ vector_sum-same n (λ k. m k i *ℤ x k) (λ k. m i k *ℤ x k) (λ k inside. ap (λ t. t *ℤ x k) (symmetric k i inside lt)))

-- what is multiplied by an inverse and then by the matrix comes back, d times
pub undone : (n : ℕ) (m c : Matrix) (d : ℤ) (y : Vector) → IsInverse n m c d → (i : ℕ) → i < n → applied n m (applied n c y) i ≡ d *ℤ y i
undone n m c d y inverse i lt =
    moved n n c (m i) y
    ∙ inner_comm n (combined n c (m i)) y
    ∙ inner-same n y (combined n c (m i)) (λ j. if i == j then d else pos 0) (λ j inside. inverse.product i j lt inside)
    ∙ inner-unit n i d y lt

-- the form of a sum of two multiples
pub form-sum : (n : ℕ) (m : Matrix) (x y : Vector) (s t : ℤ) → ((i j : ℕ) → i < n → j < n → m i j ≡ m j i)
    → form n m (λ i. s *ℤ x i +ℤ t *ℤ y i) ≡ form n m x *ℤ (s *ℤ s) +ℤ pos 2 *ℤ (inner n x (applied n m y) *ℤ (s *ℤ t)) +ℤ form n m y *ℤ (t *ℤ t)
form-sum n m x y s t symmetric =
    inner-same n z (applied n m z) (λ i. s *ℤ applied n m x i +ℤ t *ℤ applied n m y i) (λ i lt. inner-linear n s t (m i) x y)
    ∙ inner-linear n s t z (applied n m x) (applied n m y)
    ∙ ap₂ (λ a b. s *ℤ a +ℤ t *ℤ b) (turned (applied n m x)) (turned (applied n m y))
    ∙ ap (λ b. s *ℤ (s *ℤ form n m x +ℤ t *ℤ b) +ℤ t *ℤ (s *ℤ inner n x (applied n m y) +ℤ t *ℤ form n m y)) (between_comm n m y x symmetric)
    ∙ ring (x0 ⊗ (x0 ⊗ x2 ⊕ x1 ⊗ x3) ⊕ x1 ⊗ (x0 ⊗ x3 ⊕ x1 ⊗ x4)) (x2 ⊗ (x0 ⊗ x0) ⊕ lit 2 ⊗ (x3 ⊗ (x0 ⊗ x1)) ⊕ x4 ⊗ (x1 ⊗ x1))
    (s ∷ t ∷ form n m x ∷ inner n x (applied n m y) ∷ form n m y ∷ []) refl
  where
    z : Vector
    z = λ i. s *ℤ x i +ℤ t *ℤ y i

    turned : (w : Vector) → inner n z w ≡ s *ℤ inner n x w +ℤ t *ℤ inner n y w
    turned w = inner_comm n z w ∙ inner-linear n s t w x y ∙ ap₂ (λ a b. s *ℤ a +ℤ t *ℤ b) (inner_comm n w x) (inner_comm n w y)

-- the sum of the squares of a sum of two multiples
pub inner-sum : (n : ℕ) (x y : Vector) (s t : ℤ)
    → inner n (λ i. s *ℤ x i +ℤ t *ℤ y i) (λ i. s *ℤ x i +ℤ t *ℤ y i) ≡ inner n x x *ℤ (s *ℤ s) +ℤ pos 2 *ℤ (inner n x y *ℤ (s *ℤ t)) +ℤ inner n y y *ℤ (t *ℤ t)
inner-sum n x y s t =
    inner-linear n s t z x y
    ∙ ap₂ (λ a b. s *ℤ a +ℤ t *ℤ b) (turned x) (turned y)
    ∙ ap (λ b. s *ℤ (s *ℤ inner n x x +ℤ t *ℤ b) +ℤ t *ℤ (s *ℤ inner n x y +ℤ t *ℤ inner n y y)) (inner_comm n y x)
    ∙ ring (x0 ⊗ (x0 ⊗ x2 ⊕ x1 ⊗ x3) ⊕ x1 ⊗ (x0 ⊗ x3 ⊕ x1 ⊗ x4)) (x2 ⊗ (x0 ⊗ x0) ⊕ lit 2 ⊗ (x3 ⊗ (x0 ⊗ x1)) ⊕ x4 ⊗ (x1 ⊗ x1))
    (s ∷ t ∷ inner n x x ∷ inner n x y ∷ inner n y y ∷ []) refl
  where
    z : Vector
    z = λ i. s *ℤ x i +ℤ t *ℤ y i

    turned : (w : Vector) → inner n z w ≡ s *ℤ inner n x w +ℤ t *ℤ inner n y w
    turned w = inner_comm n z w ∙ inner-linear n s t w x y ∙ ap₂ (λ a b. s *ℤ a +ℤ t *ℤ b) (inner_comm n w x) (inner_comm n w y)

-- the form of the propagated matrix is that of the matrix itself, at the combined rows
pub propagated-form : (p n : ℕ) (h c : Matrix) (u : Vector) → form p (propagated n h c) u ≡ inner n (combined p h u) (applied n c (combined p h u))
propagated-form p n h c u =
    inner-same p u (applied p (propagated n h c) u) (applied n h (applied n c (combined p h u)))
    (λ j lt.
    inner_comm p (propagated n h c j) u
    ∙ inner-same p u (propagated n h c j) (applied n g (h j)) (λ k inside. inner_comm n (h j) (g k))
    ∙ moved p n g u (h j)
    ∙ inner_comm n (combined p g u) (h j)
    ∙ inner-same n (h j) (combined p g u) (applied n c (combined p h u)) (λ i inside.
    inner-same p u (λ k. inner n (c i) (h k)) (applied n h (c i)) (λ k in_k. inner_comm n (c i) (h k))
    ∙ moved p n h u (c i)
    ∙ inner_comm n (combined p h u) (c i)))
    ∙ moved p n h u (applied n c (combined p h u))
  where
    g : Matrix
    g = λ k. applied n c (h k)
