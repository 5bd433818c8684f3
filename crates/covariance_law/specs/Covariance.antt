-- Loads and covariances. A normal matrix m of n unknowns is given, and p linear forms of them, the rows of h. With unit
-- variance 1 the covariance matrix of the unknowns is the inverse of m, and that of the forms follows from it.
use Rattle.std.specs.Prelude.{◌≡◌, ◌↔◌, ◌==◌, if◌then◌else◌, ℕ, ◌<◌, ℤ, pos, ◌+ℤ◌, ◌-ℤ◌, ◌*ℤ◌, ◌≤ℤ◌, ◌<ℤ◌}
use Rattle.covariance_law.specs.Vectors.{Vector, Matrix, vector_sum, inner, applied, form}

-- a matrix of n rows is symmetric, and its form is nowhere negative
pub record IsNormalMatrix (n : ℕ) (m : Matrix) : Type 0 where
  pub symmetric : (i j : ℕ) → i < n → j < n → m i j ≡ m j i
  pub nonnegative : (x : Vector) → pos 0 ≤ℤ form n m x

-- c / d is the inverse of m: the product m c is d times the unit matrix
-- (the covariance matrix of the unknowns of an adjustment: Ghilani and Wolf, Adjustment Computations)
pub record IsInverse (n : ℕ) (m c : Matrix) (d : ℤ) : Type 0 where
  pub positive : pos 0 <ℤ d
  pub product : (i j : ℕ) → i < n → j < n → inner n (m i) (λ k. c k j) ≡ (if i == j then d else pos 0)

-- the covariances h c h' of the forms with the rows of h
-- (the law of propagation of variances: Ghilani and Wolf, Adjustment Computations)
abbrev pub propagated : ℕ → Matrix → Matrix → Matrix
propagated n h c = λ j k. inner n (h j) (applied n c (h k))

-- the sum of the squares of the forms
abbrev pub squares : ℕ → ℕ → Matrix → Vector → ℤ
squares p n h x = vector_sum p (λ k. inner n (h k) x *ℤ inner n (h k) x)

-- at every displacement alpha times the energy is at least beta times the sum of the squares of the forms
abbrev pub EnergyBearsLoad : (n p : ℕ) (m h : Matrix) (alpha beta : ℤ) → Type 0
EnergyBearsLoad n p m h alpha beta = (x : Vector) → (beta *ℤ squares p n h x) ≤ℤ (alpha *ℤ form n m x)

-- no combination u of the forms has a variance, times d and beta, above alpha d u' u: alpha / beta is at least the
-- greatest eigenvalue of their covariance matrix h (c / d) h'
abbrev pub VarianceIsWithin : (n p : ℕ) (c h : Matrix) (d alpha beta : ℤ) → Type 0
VarianceIsWithin n p c h d alpha beta =
    (u : Vector) → (beta *ℤ form p (propagated n h c) u) ≤ℤ (alpha *ℤ d *ℤ inner p u u)

-- the energy bears a load exactly where no combination of its forms has a variance above alpha / beta
abbrev pub EnergiesBoundCovariances : Type 0
EnergiesBoundCovariances =
    (n p : ℕ) (m c h : Matrix) (d alpha beta : ℤ) →
    IsNormalMatrix n m → IsInverse n m c d → pos 0 <ℤ alpha → pos 0 <ℤ beta →
    EnergyBearsLoad n p m h alpha beta ↔ VarianceIsWithin n p c h d alpha beta

-- ---- two directions

-- l is at least both eigenvalues of the symmetric 2 by 2 matrix with the diagonal a and c and half of b beside it: it
-- is at least a and c, and there the characteristic polynomial (l - a) (l - c) - (b / 2) ^ 2 isn't negative
pub record IsAboveEigenvalues (a b c l : ℤ) : Type 0 where
  pub first : a ≤ℤ l
  pub last : c ≤ℤ l
  pub polynomial : (b *ℤ b) ≤ℤ (pos 4 *ℤ ((l -ℤ a) *ℤ (l -ℤ c)))

-- along no vector (u, v) the form is above l times the square of its length exactly where l is at least both
-- eigenvalues
abbrev pub EigenvaluesBoundForms : Type 0
EigenvaluesBoundForms =
    (a b c l : ℤ) →
    ((u v : ℤ) → (a *ℤ (u *ℤ u) +ℤ b *ℤ (u *ℤ v) +ℤ c *ℤ (v *ℤ v)) ≤ℤ (l *ℤ (u *ℤ u +ℤ v *ℤ v)))
    ↔ IsAboveEigenvalues a b c l
