-- Certificates by dominance: that a form is nowhere negative, shown by a list of smaller matrices. This project's own;
-- that a dominant diagonal gives such a form is the usual criterion.
use Rattle.std.specs.Prelude.{◌≡◌, ℕ, zero, suc, ◌⊎◌, List, [], ◌∷◌, ℤ, pos, ◌≤ℤ◌, ◌<ℤ◌, IsTrue}
use Rattle.std.specs.List.{list_all}
use Rattle.whole_algebra.specs.Rounding.{is_zero, size_of}
use Rattle.whole_algebra.specs.Matrices.{at, entries, schur, diagonal, off_sums, minus_matrix, lower_over}
use Rattle.whole_algebra.specs.Chains.{next}

-- in each row the diagonal entry is at least the sum of the sizes of the others
abbrev pub IsDominant : List (List ℤ) → Type 0
IsDominant m = (i : ℕ) → at (off_sums (entries size_of m)) i ≤ℤ at (diagonal m) i

-- the step from the matrix with this first row to the remainder: under a pivot a the matrix of the
-- a (m_ij - r_ij) - b_i b_j is dominant, beside a zero row the matrix of the m_ij - r_ij
abbrev pub StepHolds : List ℤ → List (List ℤ) → List (List ℤ) → Type 0
StepHolds [] m r = IsDominant (minus_matrix m r)
StepHolds (a ∷ b) m r =
    ((pos 0 <ℤ a) × IsDominant (schur a b (minus_matrix m r)))
    ⊎ ((a ≡ pos 0) × IsTrue (list_all is_zero b) × IsDominant (minus_matrix m r))

-- a remainder for each row, and each step holds
abbrev pub CertificateHolds : List (List (List ℤ)) → List (List ℤ) → Type 0
CertificateHolds [] [] = Unit {0}
CertificateHolds [] (row ∷ rest) = ⊥
CertificateHolds (r ∷ rs) [] = ⊥
CertificateHolds (r ∷ rs) (row ∷ rest) = StepHolds row rest r × CertificateHolds rs r

-- the matrices that the lower chain leaves after each of n steps
abbrev pub lower_remainders : ℕ → List (List ℤ) → List (List (List ℤ))
lower_remainders zero m = []
lower_remainders (suc n) [] = []
lower_remainders (suc n) (row ∷ rest) = next lower_over row rest ∷ lower_remainders n (next lower_over row rest)
