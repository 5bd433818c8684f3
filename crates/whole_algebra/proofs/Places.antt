-- Matrices entry by entry.
use Rattle.std.proofs.Common.{◌≡◌, ℕ, zero, suc, ◌+◌, ◌-◌, ◌<◌, ◌≤◌, List, [], ◌∷◌, map, length, take, refl, sym, ◌∙◌, ap, ap₂, arith, ℤ, pos, ◌+ℤ◌, ◌-ℤ◌, ◌*ℤ◌, neg_ℤ, ◌<ℤ◌}
use Rattle.whole_algebra.specs.Sums.{int_sum}
use Rattle.whole_algebra.specs.Rounding.{floor_over, gap_over, ceil_over}
use Rattle.whole_algebra.specs.Matrices.{at, scale, entries, plus_matrix, minus_matrix, schur, diagonal, off_sums, plus_diagonal, slacks, lower_over, upper_over, IsTriangle}
use Rattle.whole_algebra.specs.Chains.{beside, next, chain_rows, matrix_after}
use Rattle.whole_algebra.specs.Grid.{row_at, above}
use Rattle.whole_algebra.proofs.Ring.{add_zero, zero_add, add_assoc, add_comm, mul_zero}
use Rattle.whole_algebra.proofs.Rounding.{floor_of_zero, gap_of_zero}
use Rattle.whole_algebra.proofs.Shapes.{at-map, at-plus_lists, at-diagonal-plus_diagonal, at-diagonal-entries}
use Rattle.whole_algebra.proofs.Normal.{ring, x0, x1, x2, x3, lit, opposite_of, ◌⊕◌, ◌⊖◌, ◌⊗◌}

pub at-beside : (row : List ℤ) (k : ℕ) → at (beside row) k ≡ at row (suc k)
at-beside [] k = refl
at-beside (a ∷ b) k = refl

pub at-diagonal : (m : List (List ℤ)) (i : ℕ) → at (diagonal m) i ≡ at (row_at m i) 0
at-diagonal [] i = refl
at-diagonal ([] ∷ rest) zero = refl
at-diagonal ((a ∷ b) ∷ rest) zero = refl
at-diagonal ([] ∷ rest) (suc i) = at-diagonal rest i
at-diagonal ((a ∷ b) ∷ rest) (suc i) = at-diagonal rest i

pub row_at-entries : (f : ℤ → ℤ) (m : List (List ℤ)) (i : ℕ) → row_at (entries f m) i ≡ map f (row_at m i)
row_at-entries f [] i = refl
row_at-entries f (row ∷ rest) zero = refl
row_at-entries f (row ∷ rest) (suc i) = row_at-entries f rest i

pub at-row_at-entries : (f : ℤ → ℤ) → f (pos 0) ≡ pos 0 → (m : List (List ℤ)) (i k : ℕ) → at (row_at (entries f m) i) k ≡ f (at (row_at m i) k)
at-row_at-entries f e m i k = ap (λ r. at r k) (row_at-entries f m i) ∙ at-map f e (row_at m i) k

pub at-row_at-plus_matrix : (m n : List (List ℤ)) (i k : ℕ) → at (row_at (plus_matrix m n) i) k ≡ at (row_at m i) k +ℤ at (row_at n i) k
at-row_at-plus_matrix [] n i k = sym (zero_add (at (row_at n i) k))
at-row_at-plus_matrix (r ∷ m) [] i k = sym (add_zero (at (row_at (r ∷ m) i) k))
at-row_at-plus_matrix (r ∷ m) (s ∷ n) zero k = at-plus_lists r s k
at-row_at-plus_matrix (r ∷ m) (s ∷ n) (suc i) k = at-row_at-plus_matrix m n i k

pub at-row_at-minus_matrix : (m n : List (List ℤ)) (i k : ℕ) → at (row_at (minus_matrix m n) i) k ≡ at (row_at m i) k -ℤ at (row_at n i) k
at-row_at-minus_matrix m n i k =
    at-row_at-plus_matrix m (entries neg_ℤ n) i k ∙ ap (λ t. at (row_at m i) k +ℤ t) (at-row_at-entries neg_ℤ refl n i k)

none_before : (k : ℕ) → k ≡ 0 + k
none_before k = omega arith

one_before : (i k : ℕ) → suc (i + k) ≡ suc i + k
one_before i k = omega arith

-- the entry in row i and k places right of its diagonal
pub at-row_at-schur : (a : ℤ) (b : List ℤ) (m : List (List ℤ)) (i k : ℕ)
    → at (row_at (schur a b m) i) k ≡ a *ℤ at (row_at m i) k -ℤ at b i *ℤ at b (i + k)
at-row_at-schur a [] m i k =
    at-row_at-entries (λ z. a *ℤ z) (mul_zero a) m i k
    ∙ ring x0 (x0 ⊖ lit 0 ⊗ lit 0) ((a *ℤ at (row_at m i) k) ∷ []) refl
at-row_at-schur a (c ∷ b) [] zero k =
    at-map (λ z. neg_ℤ c *ℤ z) (mul_zero (neg_ℤ c)) (c ∷ b) k
    ∙ ring (opposite_of x1 ⊗ x2) (x0 ⊗ lit 0 ⊖ x1 ⊗ x2) (a ∷ c ∷ at (c ∷ b) k ∷ []) refl
    ∙ ap (λ j. a *ℤ pos 0 -ℤ c *ℤ at (c ∷ b) j) (none_before k)
at-row_at-schur a (c ∷ b) [] (suc i) k =
    at-row_at-schur a b [] i k ∙ ap (λ j. a *ℤ pos 0 -ℤ at b i *ℤ at (c ∷ b) j) (one_before i k)
at-row_at-schur a (c ∷ b) (row ∷ rest) zero k =
    at-plus_lists (scale a row) (scale (neg_ℤ c) (c ∷ b)) k
    ∙ ap₂ (λ s t. s +ℤ t) (at-map (λ z. a *ℤ z) (mul_zero a) row k) (at-map (λ z. neg_ℤ c *ℤ z) (mul_zero (neg_ℤ c)) (c ∷ b) k)
    ∙ ring (x0 ⊗ x3 ⊕ opposite_of x1 ⊗ x2) (x0 ⊗ x3 ⊖ x1 ⊗ x2) (a ∷ c ∷ at (c ∷ b) k ∷ at row k ∷ []) refl
    ∙ ap (λ j. a *ℤ at row k -ℤ c *ℤ at (c ∷ b) j) (none_before k)
at-row_at-schur a (c ∷ b) (row ∷ rest) (suc i) k =
    at-row_at-schur a b rest i k ∙ ap (λ j. a *ℤ at (row_at rest i) k -ℤ at b i *ℤ at (c ∷ b) j) (one_before i k)

pub at-row_at-plus_diagonal : (m : List (List ℤ)) (d : List ℤ) (i k : ℕ) → at (row_at (plus_diagonal m d) i) (suc k) ≡ at (row_at m i) (suc k)
at-row_at-plus_diagonal m [] i k = refl
at-row_at-plus_diagonal [] (e ∷ d) zero k = refl
at-row_at-plus_diagonal [] (e ∷ d) (suc i) k = at-row_at-plus_diagonal [] d i k
at-row_at-plus_diagonal ([] ∷ m) (e ∷ d) zero k = refl
at-row_at-plus_diagonal ([] ∷ m) (e ∷ d) (suc i) k = at-row_at-plus_diagonal m d i k
at-row_at-plus_diagonal ((a ∷ b) ∷ m) (e ∷ d) zero k = refl
at-row_at-plus_diagonal ((a ∷ b) ∷ m) (e ∷ d) (suc i) k = at-row_at-plus_diagonal m d i k

-- the divided matrix right of the diagonal
pub lower_over-right : (a : ℤ) (m : List (List ℤ)) (i k : ℕ) → pos 0 <ℤ a
    → at (row_at (lower_over a m) i) (suc k) ≡ floor_over a (at (row_at m i) (suc k))
lower_over-right a m i k h =
    at-row_at-plus_diagonal (entries (floor_over a) m) (map neg_ℤ (slacks a m)) i k
    ∙ at-row_at-entries (floor_over a) (floor_of_zero a h) m i (suc k)

pub upper_over-right : (a : ℤ) (m : List (List ℤ)) (i k : ℕ) → pos 0 <ℤ a
    → at (row_at (upper_over a m) i) (suc k) ≡ floor_over a (at (row_at m i) (suc k))
upper_over-right a m i k h =
    at-row_at-plus_diagonal (plus_diagonal (entries (floor_over a) m) (diagonal (entries (gap_over a) m))) (slacks a m) i k
    ∙ at-row_at-plus_diagonal (entries (floor_over a) m) (diagonal (entries (gap_over a) m)) i k
    ∙ at-row_at-entries (floor_over a) (floor_of_zero a h) m i (suc k)

-- and on it
pub lower_over-diagonal : (a : ℤ) (m : List (List ℤ)) (i : ℕ) → pos 0 <ℤ a
    → at (row_at (lower_over a m) i) 0 ≡ floor_over a (at (row_at m i) 0) -ℤ at (slacks a m) i
lower_over-diagonal a m i h =
    sym (at-diagonal (lower_over a m) i)
    ∙ at-diagonal-plus_diagonal (entries (floor_over a) m) (map neg_ℤ (slacks a m)) i
    ∙ ap₂ (λ s t. s +ℤ t)
    (at-diagonal-entries (floor_over a) (floor_of_zero a h) m i ∙ ap (floor_over a) (at-diagonal m i))
    (at-map neg_ℤ refl (slacks a m) i)

pub upper_over-diagonal : (a : ℤ) (m : List (List ℤ)) (i : ℕ) → pos 0 <ℤ a
    → at (row_at (upper_over a m) i) 0 ≡ ceil_over a (at (row_at m i) 0) +ℤ at (slacks a m) i
upper_over-diagonal a m i h =
    sym (at-diagonal (upper_over a m) i)
    ∙ at-diagonal-plus_diagonal (plus_diagonal (entries (floor_over a) m) (diagonal (entries (gap_over a) m))) (slacks a m) i
    ∙ ap (λ t. t +ℤ at (slacks a m) i)
    (at-diagonal-plus_diagonal (entries (floor_over a) m) (diagonal (entries (gap_over a) m)) i
    ∙ ap₂ (λ s t. s +ℤ t)
    (at-diagonal-entries (floor_over a) (floor_of_zero a h) m i ∙ ap (floor_over a) (at-diagonal m i))
    (at-diagonal-entries (gap_over a) (gap_of_zero a h) m i ∙ ap (gap_over a) (at-diagonal m i)))

-- ---- a row's sum off the diagonal: what stands above the diagonal in its column, and right of it in its row
above-cons : (row : List ℤ) (m : List (List ℤ)) (i k : ℕ) → k ≤ i → above (row ∷ m) (suc i) (suc k) ≡ at row (suc i) +ℤ above m i k
above-cons row m i zero le =
    ap (λ j. pos 0 +ℤ at row j) (all_of i) ∙ ring (lit 0 ⊕ x0) (x0 ⊕ lit 0) (at row (suc i) ∷ []) refl
  where
    all_of : (i : ℕ) → suc i - 0 ≡ suc i
    all_of i = omega arith
above-cons row m i (suc k) le =
    ap₂ (λ s t. s +ℤ t) (above-cons row m i k (omega arith)) (ap (λ j. at (row_at m k) j) (one_less i k))
    ∙ add_assoc (at row (suc i)) (above m i k) (at (row_at m k) (i - k))
  where
    one_less : (i k : ℕ) → suc i - suc k ≡ i - k
    one_less i k = omega arith

pub at-off_sums : (m : List (List ℤ)) (i : ℕ) → at (off_sums m) i ≡ above m i i +ℤ int_sum (beside (row_at m i))
at-off_sums [] i = sym (add_zero (above [] i i) ∙ nothing i i)
  where
    nothing : (j k : ℕ) → above [] j k ≡ pos 0
    nothing j zero = refl
    nothing j (suc k) = add_zero (above [] j k) ∙ nothing j k
at-off_sums ([] ∷ m) zero = refl
at-off_sums ((a ∷ b) ∷ m) zero = sym (zero_add (int_sum b))
at-off_sums ([] ∷ m) (suc i) =
    at-off_sums m i
    ∙ ap (λ t. t +ℤ int_sum (beside (row_at m i))) (sym (zero_add (above m i i)) ∙ sym (above-cons [] m i i (omega arith)))
at-off_sums ((a ∷ b) ∷ m) (suc i) =
    at-plus_lists b (off_sums m) i
    ∙ ap (λ t. at b i +ℤ t) (at-off_sums m i)
    ∙ sym (add_assoc (at b i) (above m i i) (int_sum (beside (row_at m i))))
    ∙ ap (λ t. t +ℤ int_sum (beside (row_at m i))) (sym (above-cons (a ∷ b) m i i (omega arith)))

-- ---- lists and triangles with the same entries are the same
pub same_list : (xs ys : List ℤ) → length xs ≡ length ys → ((m : ℕ) → m < length xs → at xs m ≡ at ys m) → xs ≡ ys
same_list [] [] e h = refl
same_list [] (y ∷ ys) e h = absurd (omega arith)
same_list (x ∷ xs) [] e h = absurd (omega arith)
same_list (x ∷ xs) (y ∷ ys) e h = ap₂ ◌∷◌ (h zero (omega arith)) (same_list xs ys (omega arith) (λ m lt. h (suc m) (omega arith)))

pub triangle_by_places : (n : ℕ) (m m' : List (List ℤ)) → IsTriangle n m → IsTriangle n m' → ((i k : ℕ) → at (row_at m i) k ≡ at (row_at m' i) k) → m ≡ m'
triangle_by_places zero [] [] t u h = refl
triangle_by_places zero [] (s ∷ m') t u h = absurd u
triangle_by_places zero (r ∷ m) m' t u h = absurd t
triangle_by_places (suc n) [] m' t u h = absurd t
triangle_by_places (suc n) (r ∷ m) [] t u h = absurd u
triangle_by_places (suc n) (r ∷ m) (s ∷ m') t u h =
    ap₂ ◌∷◌ (same_list r s (t.0 ∙ sym u.0) (λ k lt. h zero k)) (triangle_by_places n m m' t.1 u.1 (λ i k. h (suc i) k))

-- ---- the rows of a chain are the first rows of its matrices
pub row_at-chain_rows : (over : ℤ → List (List ℤ) → List (List ℤ)) (n t : ℕ) (m : List (List ℤ)) → t < n
    → row_at (chain_rows over n m) t ≡ row_at (matrix_after over t m) 0
row_at-chain_rows over zero t m lt = absurd (omega arith)
row_at-chain_rows over (suc n) zero [] lt = refl
row_at-chain_rows over (suc n) (suc t) [] lt = refl
row_at-chain_rows over (suc n) zero (row ∷ rest) lt = refl
row_at-chain_rows over (suc n) (suc t) (row ∷ rest) lt = row_at-chain_rows over n t (next over row rest) (omega arith)

-- ---- partial sums, as a loop takes them
sum_of_first : (xs : List ℤ) (k : ℕ) → int_sum (take (suc k) xs) ≡ int_sum (take k xs) +ℤ at xs k
sum_of_first [] zero = refl
sum_of_first [] (suc k) = refl
sum_of_first (x ∷ xs) zero = add_comm x (pos 0)
sum_of_first (x ∷ xs) (suc k) = ap (λ t. x +ℤ t) (sum_of_first xs k) ∙ sym (add_assoc x (int_sum (take k xs)) (at xs k))

pub int_sum-take_more : (xs : List ℤ) (k : ℕ) → int_sum (take (k + 1) xs) ≡ int_sum (take k xs) +ℤ at xs k
int_sum-take_more xs k = ap (λ j. int_sum (take j xs)) (one_more k) ∙ sum_of_first xs k
  where
    one_more : (k : ℕ) → k + 1 ≡ suc k
    one_more k = omega arith
