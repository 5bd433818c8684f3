-- Entries of matrices within the limit, and of what a step leaves over.
use Rattle.std.proofs.Common.{◌≡◌, ℕ, zero, suc, ◌+◌, ◌^◌, ◌≤◌, List, [], ◌∷◌, length, refl, sym, ◌∙◌, ap, ap₂, subst, arith, inl, inr, ℤ, pos, ◌-ℤ◌, ◌*ℤ◌, neg_ℤ, ◌<ℤ◌, unsigned_abs}
use Rattle.std.proofs.lemmas.Int.{ints}
use Rattle.whole_algebra.specs.Rounding.{size_of}
use Rattle.whole_algebra.specs.Matrices.{at, entries, plus_matrix, minus_matrix, IsTriangle}
use Rattle.whole_algebra.specs.Chains.{beside}
use Rattle.whole_algebra.specs.Grid.{row_at}
use Rattle.whole_algebra.proofs.Shapes.{triangle-schur, triangle-entries, length-plus_lists}
use Rattle.whole_algebra.proofs.Places.{at-row_at-schur, at-row_at-minus_matrix, at-row_at-entries, at-beside}
use Rattle.whole_algebra.proofs.Written.{read_back}
use Rattle.lent_parts.specs.Triangle.{IsTri, tri_row}
use Rattle.psd_cert.specs.Sizes.{RowFits, Fits}
use Rattle.psd_cert.specs.LeftOver.{left_over, left_sizes, IsScale}
use Rattle.chain_step.proofs.Products.{kept}

-- ---- sizes
pub row_fits_at : (row : List ℤ) (k : ℕ) → RowFits row → unsigned_abs (at row k) ≤ 2 ^ 61
row_fits_at [] k h = omega arith
row_fits_at (z ∷ row) zero h = h 0 (pos 0) (omega arith)
row_fits_at (z ∷ row) (suc k) h = row_fits_at row k (λ j d lt. h (suc j) d (omega arith))

pub fits_at : (m : List (List ℤ)) (i : ℕ) → Fits m → RowFits (row_at m i)
fits_at [] i h = λ j d lt. absurd (omega arith)
fits_at (row ∷ m) zero h = h 0 [] (omega arith)
fits_at (row ∷ m) (suc i) h = fits_at m i (λ j d lt. h (suc j) d (omega arith))

pub entry_fits : (m : List (List ℤ)) (i k : ℕ) → Fits m → unsigned_abs (at (row_at m i) k) ≤ 2 ^ 61
entry_fits m i k h = row_fits_at (row_at m i) k (fits_at m i h)

-- ---- shapes
pub triangle-plus_matrix : (n : ℕ) (m r : List (List ℤ)) → IsTriangle n m → IsTriangle n r → IsTriangle n (plus_matrix m r)
triangle-plus_matrix zero [] r t u = u
triangle-plus_matrix zero (p ∷ m) r t u = absurd t
triangle-plus_matrix (suc n) [] r t u = absurd t
triangle-plus_matrix (suc n) (p ∷ m) [] t u = absurd u
triangle-plus_matrix (suc n) (p ∷ m) (q ∷ r) t u = (length-plus_lists p q (suc n) t.0 u.0, triangle-plus_matrix n m r t.1 u.1)

pub triangle-minus_matrix : (n : ℕ) (m r : List (List ℤ)) → IsTriangle n m → IsTriangle n r → IsTriangle n (minus_matrix m r)
triangle-minus_matrix n m r t u = triangle-plus_matrix n m (entries neg_ℤ r) t (triangle-entries neg_ℤ n r u)

pub length-beside : (row : List ℤ) (n : ℕ) → length row ≡ suc n → length (beside row) ≡ n
length-beside [] n e = absurd (omega arith)
length-beside (a ∷ b) n e = omega arith

pub triangle-left_over : (s : ℤ) (n : ℕ) (m r : List (List ℤ)) → IsTri (suc n) m → IsTri n r → IsTriangle n (left_over s m r)
unfolding left_over
triangle-left_over s n [] r t u = absurd t
triangle-left_over s n (row ∷ rest) r t u = triangle-schur s n (beside row) (minus_matrix rest r) (length-beside row n t.0) (triangle-minus_matrix n rest r t.1 u)

-- ---- entries of what is left over
pub at-left_over : (s : ℤ) (n : ℕ) (m r : List (List ℤ)) (i k : ℕ) → IsTri (suc n) m
    → at (row_at (left_over s m r) i) k ≡ s *ℤ (at (row_at m (suc i)) k -ℤ at (row_at r i) k) -ℤ at (row_at m 0) (suc i) *ℤ at (row_at m 0) (suc (i + k))
unfolding left_over
at-left_over s n [] r i k t = absurd t
at-left_over s n (row ∷ rest) r i k t =
    at-row_at-schur s (beside row) (minus_matrix rest r) i k
    ∙ ap₂ (λ p q. s *ℤ p -ℤ q) (at-row_at-minus_matrix rest r i k) (ap₂ (λ p q. p *ℤ q) (at-beside row i) (at-beside row (i + k)))

pub at-left_sizes : (s : ℤ) (m r : List (List ℤ)) (i k : ℕ) → at (row_at (left_sizes s m r) i) k ≡ pos (unsigned_abs (at (row_at (left_over s m r) i) k))
unfolding left_sizes
at-left_sizes s m r i k = at-row_at-entries size_of refl (left_over s m r) i k

-- ---- the scale
pub scale_above : (row : List ℤ) (s : ℤ) → IsScale row s → pos 0 <ℤ s
scale_above [] s h = absurd h
scale_above (a ∷ b) s h = elim h [ inl p ↦ subst (λ z. pos 0 <ℤ z) (sym p.1) p.0 | inr q ↦ subst (λ z. pos 0 <ℤ z) (sym q.2) (omega (arith, ints)) ]

pub scale_fits : (row : List ℤ) (s : ℤ) → IsScale row s → RowFits row → unsigned_abs s ≤ 2 ^ 61
scale_fits [] s h g = absurd h
scale_fits (a ∷ b) s h g =
    let a_fits : unsigned_abs a ≤ 2 ^ 61 = g 0 (pos 0) (omega arith) in
    elim h [ inl p ↦ subst (λ z. unsigned_abs z ≤ 2 ^ 61) (sym p.1) a_fits | inr q ↦ subst (λ z. unsigned_abs z ≤ 2 ^ 61) (sym q.2) (omega arith) ]

-- ---- entries that were read from rows
pub entry_read : (m : List (List ℤ)) (i j : ℕ) (row : List ℤ) (k l : ℕ) → Fits m → row ≡ tri_row m i → j ≡ i → l ≡ k → kept (at row k) ≡ at (row_at m j) l
entry_read m i j row k l h e f g =
    let size = entry_fits m i k h in
    ap (λ t. kept (at t k)) e ∙ read_back (at (tri_row m i) k) (2 ^ 126) (omega arith) (omega arith) ∙ ap₂ (λ u v. at (row_at m u) v) (sym f) (sym g)

pub left_over_read : (s : ℤ) (n : ℕ) (m r : List (List ℤ)) (i k : ℕ) (first row below : List ℤ) (x : ℤ)
    → IsTri (suc n) m → Fits m → Fits r → unsigned_abs s ≤ 2 ^ 61
    → first ≡ tri_row m 0 → row ≡ tri_row m (i + 1) → below ≡ tri_row r i
    → x ≡ kept s *ℤ (kept (at row k) -ℤ kept (at below k)) -ℤ kept (at first (i + 1)) *ℤ kept (at first (i + k + 1))
    → x ≡ at (row_at (left_over s m r) i) k
left_over_read s n m r i k first row below x t h g hs e1 e2 e3 e =
    e
    ∙ ap₂ (λ u v. u -ℤ v)
    (ap₂ (λ u v. u *ℤ v) (read_back s (2 ^ 126) (omega arith) (omega arith))
    (ap₂ (λ u v. u -ℤ v) (entry_read m (i + 1) (suc i) row k k h e2 (omega arith) refl) (entry_read r i i below k k g e3 refl refl)))
    (ap₂ (λ u v. u *ℤ v) (entry_read m 0 0 first (i + 1) (suc i) h e1 refl (omega arith)) (entry_read m 0 0 first (i + k + 1) (suc (i + k)) h e1 refl (omega arith)))
    ∙ sym (at-left_over s n m r i k t)
