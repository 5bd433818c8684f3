-- The sums of a dominant matrix, as loops take them, and when a step holds.
use Rattle.std.proofs.Common.{◌≡◌, ℕ, zero, suc, ◌+◌, ◌-◌, ◌<◌, ◌≤◌, true, List, [], ◌∷◌, map, length, take, refl, sym, ◌∙◌, ap, subst, arith, inl, inr, ℤ, pos, ◌+ℤ◌, ◌-ℤ◌, ◌*ℤ◌, ◌≤ℤ◌, ◌<ℤ◌, unsigned_abs}
use Rattle.std.specs.List.{list_all}
use Rattle.std.proofs.lemmas.Int.{ints}
use Rattle.std.proofs.lemmas.Bool.{cases_lt}
use Rattle.whole_algebra.specs.Sums.{int_sum}
use Rattle.whole_algebra.specs.Rounding.{is_zero, size_of}
use Rattle.whole_algebra.specs.Matrices.{at, entries, minus_matrix, schur, diagonal, off_sums, IsTriangle}
use Rattle.whole_algebra.specs.Chains.{beside}
use Rattle.whole_algebra.specs.Certificates.{IsDominant}
use Rattle.whole_algebra.specs.Grid.{row_at, above}
use Rattle.whole_algebra.proofs.Order.{le_refl}
use Rattle.whole_algebra.proofs.Shapes.{triangle-schur, triangle-entries, length-diagonal, length-off_sums}
use Rattle.whole_algebra.proofs.Places.{at-row_at-schur, at-beside, at-diagonal, at-off_sums, int_sum-take_more, triangle_by_places, row_at-entries}
use Rattle.whole_algebra.proofs.Normal.{ring, x0, x1, lit, ◌⊖◌, ◌⊗◌}
use Rattle.lent_parts.specs.Triangle.{IsTri, tri_row}
use Rattle.chain_step.proofs.RowLaws.{nothing_past}
use Rattle.chain_step.proofs.Dividing.{at_zeros}
use Rattle.psd_cert.specs.Certificate.{StepFrom}
use Rattle.psd_cert.specs.LeftOver.{left_over, left_sizes, IsRowDominant, IsScale}
use Rattle.psd_cert.proofs.Entries.{at-left_sizes, triangle-left_over, triangle-minus_matrix}

-- ---- the part of a row's sum that stands above the diagonal
pub above_more : (s : ℤ) (m r : List (List ℤ)) (i j : ℕ)
    → above (left_sizes s m r) i (j + 1) ≡ above (left_sizes s m r) i j +ℤ pos (unsigned_abs (at (row_at (left_over s m r) j) (i - j)))
above_more s m r i j =
    ap (λ k. above (left_sizes s m r) i k) (one_more j) ∙ ap (λ t. above (left_sizes s m r) i j +ℤ t) (at-left_sizes s m r j (i - j))
  where
    one_more : (j : ℕ) → j + 1 ≡ suc j
    one_more j = omega arith

-- it grows with each entry
grows_above : (s : ℤ) (m r : List (List ℤ)) (i j d : ℕ) → above (left_sizes s m r) i j ≤ℤ above (left_sizes s m r) i (j + d)
grows_above s m r i j zero = subst (λ k. above (left_sizes s m r) i j ≤ℤ above (left_sizes s m r) i k) (none_more j) (le_refl (above (left_sizes s m r) i j))
  where
    none_more : (j : ℕ) → j ≡ j + 0
    none_more j = omega arith
grows_above s m r i j (suc d) =
    subst (λ k. above (left_sizes s m r) i j ≤ℤ above (left_sizes s m r) i k) (one_more j d)
    (added (above (left_sizes s m r) i j) (above (left_sizes s m r) i (j + d)) (above (left_sizes s m r) i ((j + d) + 1)) (unsigned_abs (at (row_at (left_over s m r) (j + d)) (i - (j + d))))
    (grows_above s m r i j d) (above_more s m r i (j + d)))
  where
    one_more : (j d : ℕ) → (j + d) + 1 ≡ j + suc d
    one_more j d = omega arith

    added : (p q t : ℤ) (n : ℕ) → p ≤ℤ q → t ≡ q +ℤ pos n → p ≤ℤ t
    added p q t n h e = omega (arith, ints)

pub above_at_most : (s : ℤ) (m r : List (List ℤ)) (i j : ℕ) → j ≤ i → above (left_sizes s m r) i j ≤ℤ above (left_sizes s m r) i i
above_at_most s m r i j le = subst (λ k. above (left_sizes s m r) i j ≤ℤ above (left_sizes s m r) i k) (to_end i j le) (grows_above s m r i j (i - j))
  where
    to_end : (i j : ℕ) → j ≤ i → j + (i - j) ≡ i
    to_end i j le = omega arith

-- ---- the part right of the diagonal
pub beside_more : (s : ℤ) (m r : List (List ℤ)) (i k : ℕ)
    → int_sum (take (k + 1) (beside (row_at (left_sizes s m r) i)))
    ≡ int_sum (take k (beside (row_at (left_sizes s m r) i))) +ℤ pos (unsigned_abs (at (row_at (left_over s m r) i) (k + 1)))
beside_more s m r i k =
    int_sum-take_more (beside (row_at (left_sizes s m r) i)) k
    ∙ ap (λ t. int_sum (take k (beside (row_at (left_sizes s m r) i))) +ℤ t)
    (at-beside (row_at (left_sizes s m r) i) k ∙ ap (λ j. at (row_at (left_sizes s m r) i) j) (one_more k) ∙ at-left_sizes s m r i (k + 1))
  where
    one_more : (k : ℕ) → suc k ≡ k + 1
    one_more k = omega arith

grows_beside : (s : ℤ) (m r : List (List ℤ)) (i k d : ℕ)
    → int_sum (take k (beside (row_at (left_sizes s m r) i))) ≤ℤ int_sum (take (k + d) (beside (row_at (left_sizes s m r) i)))
grows_beside s m r i k zero =
    subst (λ j. int_sum (take k (beside (row_at (left_sizes s m r) i))) ≤ℤ int_sum (take j (beside (row_at (left_sizes s m r) i)))) (none_more k)
    (le_refl (int_sum (take k (beside (row_at (left_sizes s m r) i)))))
  where
    none_more : (k : ℕ) → k ≡ k + 0
    none_more k = omega arith
grows_beside s m r i k (suc d) =
    subst (λ j. int_sum (take k (beside (row_at (left_sizes s m r) i))) ≤ℤ int_sum (take j (beside (row_at (left_sizes s m r) i)))) (one_more k d)
    (added (int_sum (take k (beside (row_at (left_sizes s m r) i)))) (int_sum (take (k + d) (beside (row_at (left_sizes s m r) i)))) (int_sum (take ((k + d) + 1) (beside (row_at (left_sizes s m r) i))))
    (unsigned_abs (at (row_at (left_over s m r) i) ((k + d) + 1)))
    (grows_beside s m r i k d) (beside_more s m r i (k + d)))
  where
    one_more : (k d : ℕ) → (k + d) + 1 ≡ k + suc d
    one_more k d = omega arith

    added : (p q t : ℤ) (n : ℕ) → p ≤ℤ q → t ≡ q +ℤ pos n → p ≤ℤ t
    added p q t n h e = omega (arith, ints)

take_enough : (xs : List ℤ) (n : ℕ) → length xs ≤ n → take n xs ≡ xs
take_enough [] zero h = refl
take_enough [] (suc n) h = refl
take_enough (x ∷ xs) zero h = absurd (omega arith)
take_enough (x ∷ xs) (suc n) h = ap (λ t. x ∷ t) (take_enough xs n (omega arith))

length-beside_le : (row : List ℤ) (n : ℕ) → length row ≤ n + 1 → length (beside row) ≤ n
length-beside_le [] n h = omega arith
length-beside_le (a ∷ b) n h = omega arith

length-row_at : (n : ℕ) (m : List (List ℤ)) (i : ℕ) → IsTriangle n m → length (row_at m i) ≤ n - i
length-row_at zero [] i t = omega arith
length-row_at zero (row ∷ rest) i t = absurd t
length-row_at (suc n) [] i t = absurd t
length-row_at (suc n) (row ∷ rest) zero t = let e = t.0 in omega arith
length-row_at (suc n) (row ∷ rest) (suc i) t = let h = length-row_at n rest i t.1 in omega arith

-- all of that part
pub beside_whole : (s : ℤ) (n : ℕ) (m r : List (List ℤ)) (i : ℕ) → IsTri (suc n) m → IsTri n r → i < n
    → int_sum (take (n - i - 1) (beside (row_at (left_sizes s m r) i))) ≡ int_sum (beside (row_at (left_sizes s m r) i))
unfolding left_sizes
beside_whole s n m r i t u lt =
    let h = length-row_at n (entries size_of (left_over s m r)) i (triangle-entries size_of n (left_over s m r) (triangle-left_over s n m r t u)) in
    ap int_sum (take_enough (beside (row_at (entries size_of (left_over s m r)) i)) (n - i - 1) (length-beside_le (row_at (entries size_of (left_over s m r)) i) (n - i - 1) (omega arith)))

pub beside_at_most : (s : ℤ) (n : ℕ) (m r : List (List ℤ)) (i k : ℕ) → IsTri (suc n) m → IsTri n r → i < n → k ≤ n - i - 1
    → int_sum (take k (beside (row_at (left_sizes s m r) i))) ≤ℤ int_sum (beside (row_at (left_sizes s m r) i))
beside_at_most s n m r i k t u lt le =
    subst (λ z. int_sum (take k (beside (row_at (left_sizes s m r) i))) ≤ℤ z) (ap (λ j. int_sum (take j (beside (row_at (left_sizes s m r) i)))) (to_end (n - i - 1) k le) ∙ beside_whole s n m r i t u lt)
    (grows_beside s m r i k ((n - i - 1) - k))
  where
    to_end : (l k : ℕ) → k ≤ l → k + (l - k) ≡ l
    to_end l k le = omega arith

-- it is a sum of sizes
sizes_nonneg : (xs : List ℤ) → pos 0 ≤ℤ int_sum (map size_of xs)
sizes_nonneg [] = omega (arith, ints)
sizes_nonneg (x ∷ xs) = added (unsigned_abs x) (int_sum (map size_of xs)) (sizes_nonneg xs)
  where
    added : (n : ℕ) (p : ℤ) → pos 0 ≤ℤ p → pos 0 ≤ℤ (pos n +ℤ p)
    added n p h = omega (arith, ints)

beside-map : (row : List ℤ) → beside (map size_of row) ≡ map size_of (beside row)
beside-map [] = refl
beside-map (a ∷ b) = refl

pub beside_nonneg : (s : ℤ) (m r : List (List ℤ)) (i : ℕ) → pos 0 ≤ℤ int_sum (beside (row_at (left_sizes s m r) i))
unfolding left_sizes
beside_nonneg s m r i =
    subst (λ row. pos 0 ≤ℤ int_sum row)
    (sym (ap beside (row_at-entries size_of (left_over s m r) i) ∙ beside-map (row_at (left_over s m r) i)))
    (sizes_nonneg (beside (row_at (left_over s m r) i)))

-- ---- a row is dominant: its two parts are at most its diagonal entry
pub row_parts : (s : ℤ) (m r : List (List ℤ)) (i : ℕ)
    → at (off_sums (entries size_of (left_over s m r))) i ≡ above (left_sizes s m r) i i +ℤ int_sum (beside (row_at (left_sizes s m r) i))
unfolding left_sizes
row_parts s m r i = at-off_sums (entries size_of (left_over s m r)) i

-- ---- the whole step
pub dominant_from_rows : (n : ℕ) (m : List (List ℤ)) → IsTriangle n m → ((i : ℕ) → i < n → IsRowDominant m i) → IsDominant m
dominant_from_rows n m t h i =
    elim (cases_lt i n) [
      | inl lt ↦ h i lt
      | inr ge ↦ both_zero (at (off_sums (entries size_of m)) i) (at (diagonal m) i)
          (nothing_past (off_sums (entries size_of m)) i (let e = length-off_sums n (entries size_of m) (triangle-entries size_of n m t) in omega arith))
          (nothing_past (diagonal m) i (let e = length-diagonal n m t in omega arith))
    ]
  where
    both_zero : (p q : ℤ) → p ≡ pos 0 → q ≡ pos 0 → p ≤ℤ q
    both_zero p q e f = omega (arith, ints)

-- beside a zero row nothing is taken off
pub no_change : (n : ℕ) (b : List ℤ) (m : List (List ℤ)) → length b ≡ n → IsTriangle n m → list_all is_zero b ≡ true → schur (pos 1) b m ≡ m
no_change n b m e t z =
    triangle_by_places n (schur (pos 1) b m) m (triangle-schur (pos 1) n b m e t) t
    (λ i k. at-row_at-schur (pos 1) b m i k
    ∙ ap (λ p. pos 1 *ℤ at (row_at m i) k -ℤ p *ℤ at b (i + k)) (at_zeros b i z)
    ∙ ring (lit 1 ⊗ x0 ⊖ lit 0 ⊗ x1) x0 (at (row_at m i) k ∷ at b (i + k) ∷ []) refl)

pub step_from_rows : (s : ℤ) (n : ℕ) (m r : List (List ℤ)) → IsTri (suc n) m → IsTri n r → IsScale (tri_row m 0) s
    → ((i : ℕ) → i < n → IsRowDominant (left_over s m r) i) → StepFrom m r
unfolding left_over
step_from_rows s n [] r t u h g = absurd t
step_from_rows s n ([] ∷ rest) r t u h g = absurd h
step_from_rows s n ((a ∷ b) ∷ rest) r t u h g =
    let d = dominant_from_rows n (left_over s ((a ∷ b) ∷ rest) r) (triangle-left_over s n ((a ∷ b) ∷ rest) r t u) g in
    elim h [
      | inl p ↦ inl (p.0, subst (λ z. IsDominant (schur z b (minus_matrix rest r))) p.1 d)
      | inr q ↦ inr (q.0, q.1, subst IsDominant (no_change n b (minus_matrix rest r) (omega (arith, t.0)) (triangle-minus_matrix n rest r t.1 u) q.1) (subst (λ z. IsDominant (schur z b (minus_matrix rest r))) q.2 d))
    ]

pub rows_from_step : (s : ℤ) (n : ℕ) (m r : List (List ℤ)) → IsTri (suc n) m → IsTri n r → IsScale (tri_row m 0) s
    → StepFrom m r → (i : ℕ) → IsRowDominant (left_over s m r) i
unfolding left_over
rows_from_step s n [] r t u h g = absurd t
rows_from_step s n ([] ∷ rest) r t u h g = absurd h
rows_from_step s n ((a ∷ b) ∷ rest) r t u h g = λ i.
    elim h [
      | inl p ↦ elim g [ inl w ↦ subst (λ z. IsDominant (schur z b (minus_matrix rest r))) (sym p.1) w.1 i | inr w ↦ absurd (not_both a p.0 w.0) ]
      | inr q ↦ elim g [
        | inl w ↦ absurd (not_both a w.0 q.0)
        | inr w ↦ subst (λ z. IsDominant (schur z b (minus_matrix rest r))) (sym q.2)
            (subst IsDominant (sym (no_change n b (minus_matrix rest r) (omega (arith, t.0)) (triangle-minus_matrix n rest r t.1 u) q.1)) w.2) i
      ]
    ]
  where
    not_both : (a : ℤ) → pos 0 <ℤ a → a ≡ pos 0 → ⊥
    not_both a h e = omega (arith, ints)

-- a step that holds has a scale
pub step_has_scale : (m r : List (List ℤ)) (n : ℕ) → IsTri (suc n) m → StepFrom m r → (s : ℤ) × IsScale (tri_row m 0) s
step_has_scale [] r n t g = absurd g
step_has_scale ([] ∷ rest) r n t g = absurd (omega (arith, t.0))
step_has_scale ((a ∷ b) ∷ rest) r n t g = elim g [ inl w ↦ (a, inl (w.0, refl)) | inr w ↦ (pos 1, inr (w.0, w.1, refl)) ]

-- ---- a row's test, over plain numbers
-- the room that is left decides
pub row_is_dominant : (s : ℤ) (m r : List (List ℤ)) (i : ℕ) (room rest : ℤ)
    → room ≡ at (row_at (left_over s m r) i) 0 → rest ≡ room -ℤ above (left_sizes s m r) i i
    → (int_sum (beside (row_at (left_sizes s m r) i)) ≤ℤ rest → IsRowDominant (left_over s m r) i)
    × (IsRowDominant (left_over s m r) i → int_sum (beside (row_at (left_sizes s m r) i)) ≤ℤ rest)
row_is_dominant s m r i room rest e f =
    both (at (off_sums (entries size_of (left_over s m r))) i) (above (left_sizes s m r) i i) (int_sum (beside (row_at (left_sizes s m r) i))) (at (diagonal (left_over s m r)) i) (at (row_at (left_over s m r) i) 0) room rest
    (row_parts s m r i) (at-diagonal (left_over s m r) i) e f
  where
    both : (o u v d d' q t : ℤ) → o ≡ u +ℤ v → d ≡ d' → q ≡ d' → t ≡ q -ℤ u → (v ≤ℤ t → o ≤ℤ d) × (o ≤ℤ d → v ≤ℤ t)
    both o u v d d' q t e1 e2 e3 e4 = ((λ h. omega (arith, ints)), λ h. omega (arith, ints))

-- no room is left in the column
pub column_too_large : (s : ℤ) (m r : List (List ℤ)) (i : ℕ) (room : ℤ)
    → room ≡ at (row_at (left_over s m r) i) 0 → room <ℤ above (left_sizes s m r) i i → IsRowDominant (left_over s m r) i → ⊥
column_too_large s m r i room e h g =
    apart (at (off_sums (entries size_of (left_over s m r))) i) (above (left_sizes s m r) i i) (int_sum (beside (row_at (left_sizes s m r) i))) (at (diagonal (left_over s m r)) i) (at (row_at (left_over s m r) i) 0) room
    (row_parts s m r i) (at-diagonal (left_over s m r) i) e h (beside_nonneg s m r i) g
  where
    apart : (o u v d d' q : ℤ) → o ≡ u +ℤ v → d ≡ d' → q ≡ d' → q <ℤ u → pos 0 ≤ℤ v → o ≤ℤ d → ⊥
    apart o u v d d' q e1 e2 e3 h1 h2 g = omega (arith, ints)

-- an entry below 0 on the diagonal
pub diagonal_too_small : (s : ℤ) (m r : List (List ℤ)) (i : ℕ) (room : ℤ)
    → room ≡ at (row_at (left_over s m r) i) 0 → room <ℤ pos 0 → IsRowDominant (left_over s m r) i → ⊥
diagonal_too_small s m r i room e h g =
    column_too_large s m r i room e (above_room room (above (left_sizes s m r) i i) h (above_at_most s m r i 0 (omega arith))) g
  where
    above_room : (q u : ℤ) → q <ℤ pos 0 → pos 0 ≤ℤ u → q <ℤ u
    above_room q u h g = omega (arith, ints)
