-- What a step of a certificate leaves over: the matrix that has to be dominant. This project's own.
use Rattle.std.specs.Prelude.{◌≡◌, ℕ, suc, ◌≤◌, ◌⊎◌, List, [], ◌∷◌, length, ℤ, pos, ◌≤ℤ◌, ◌<ℤ◌, IsTrue}
use Rattle.std.specs.List.{list_all}
use Rattle.lent_parts.specs.Triangle.{IsTri}
use Rattle.whole_algebra.specs.Rounding.{is_zero, size_of}
use Rattle.whole_algebra.specs.Matrices.{at, entries, schur, diagonal, off_sums, minus_matrix}
use Rattle.whole_algebra.specs.Chains.{beside}
use Rattle.psd_cert.specs.Sizes.{Fits}

-- the entries s (c_ij - r_ij) - b_i b_j, for a first row with b beside its diagonal entry, c below it and the remainder r
unfoldable pub left_over : ℤ → List (List ℤ) → List (List ℤ) → List (List ℤ)
left_over s [] r = []
left_over s (row ∷ rest) r = schur s (beside row) (minus_matrix rest r)

-- their sizes
unfoldable pub left_sizes : ℤ → List (List ℤ) → List (List ℤ) → List (List ℤ)
left_sizes s m r = entries size_of (left_over s m r)

-- the diagonal entry of row i is at least the sum of the sizes of the others
abbrev pub IsRowDominant : List (List ℤ) → ℕ → Type 0
IsRowDominant m i = at (off_sums (entries size_of m)) i ≤ℤ at (diagonal m) i

-- the number that the step from a first row multiplies by: its diagonal entry where that is above 0, 1 where the row is 0
abbrev pub IsScale : List ℤ → ℤ → Type 0
IsScale [] s = ⊥
IsScale (a ∷ b) s = ((pos 0 <ℤ a) × (s ≡ a)) ⊎ ((a ≡ pos 0) × IsTrue (list_all is_zero b) × (s ≡ pos 1))

-- a matrix and a remainder of a size one less, both with entries within the limit
pub record IsStep (m r : List (List ℤ)) : Type 0 where
  pub shape : IsTri (suc (length r)) m
  pub remainder_shape : IsTri (length r) r
  pub few : length r ≤ 64
  pub fits : Fits m
  pub remainder_fits : Fits r
