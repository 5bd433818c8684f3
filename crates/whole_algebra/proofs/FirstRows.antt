-- The first rows of a rounded matrix depend on the first rows of the matrix alone.
use Rattle.std.proofs.Common.{◌≡◌, ℕ, zero, suc, ◌-◌, ◌<◌, ◌≤◌, inl, inr, List, map, refl, sym, ◌∙◌, ap, ap₂, arith, ℤ, pos, ◌+ℤ◌, ◌-ℤ◌, ◌<ℤ◌}
use Rattle.std.proofs.lemmas.Bool.{cases_lt}
use Rattle.whole_algebra.specs.Sums.{int_sum}
use Rattle.whole_algebra.specs.Rounding.{floor_over, ceil_over, gap_over}
use Rattle.whole_algebra.specs.Matrices.{at, entries, slacks, lower_over, upper_over, IsTriangle}
use Rattle.whole_algebra.specs.Chains.{beside}
use Rattle.whole_algebra.specs.Grid.{row_at, above, SameFirstRows}
use Rattle.whole_algebra.proofs.Shapes.{length-row_at, row_at-past, triangle-lower_over, triangle-upper_over}
use Rattle.whole_algebra.proofs.Places.{same_list, row_at-entries, lower_over-right, upper_over-right, lower_over-diagonal, upper_over-diagonal, at-off_sums}

-- triangles whose first rows have the same entries have the same first rows
pub rows_by_places : (n : ℕ) (m o : List (List ℤ)) (i : ℕ) → IsTriangle n m → IsTriangle n o → (i < n → (k : ℕ) → at (row_at m i) k ≡ at (row_at o i) k) → row_at m i ≡ row_at o i
rows_by_places n m o i left right same =
    elim (cases_lt i n) [
      | inl lt ↦
          let long = length-row_at n m i left lt in
          let other = length-row_at n o i right lt in
          same_list (row_at m i) (row_at o i) (omega arith) (λ k inside. same lt k)
      | inr le ↦ row_at-past n m i left le ∙ sym (row_at-past n o i right le)
    ]

-- ---- the slack of one of the first rows
entries-same : (f : ℤ → ℤ) (m o : List (List ℤ)) (i : ℕ) → row_at m i ≡ row_at o i → row_at (entries f m) i ≡ row_at (entries f o) i
entries-same f m o i same = row_at-entries f m i ∙ ap (map f) same ∙ sym (row_at-entries f o i)

above-same : (count : ℕ) (m o : List (List ℤ)) (j k : ℕ) → SameFirstRows count m o → k ≤ count → above m j k ≡ above o j k
above-same count m o j zero same le = refl
above-same count m o j (suc k) same le =
    ap₂ (λ s t. s +ℤ t) (above-same count m o j k same (omega arith)) (ap (λ row. at row (j - k)) (same k (omega arith)))

slack-same : (a : ℤ) (count : ℕ) (m o : List (List ℤ)) (i : ℕ) → SameFirstRows count m o → i < count → at (slacks a m) i ≡ at (slacks a o) i
slack-same a count m o i same lt =
    at-off_sums (entries (gap_over a) m) i
    ∙ ap₂ (λ s t. s +ℤ t)
    (above-same count (entries (gap_over a) m) (entries (gap_over a) o) i i (λ k inside. entries-same (gap_over a) m o k (same k inside)) (omega arith))
    (ap (λ row. int_sum (beside row)) (entries-same (gap_over a) m o i (same i lt)))
    ∙ sym (at-off_sums (entries (gap_over a) o) i)

-- ---- the rounded rows
lower-places : (a : ℤ) (count : ℕ) (m o : List (List ℤ)) (i k : ℕ) → pos 0 <ℤ a → SameFirstRows count m o → i < count → at (row_at (lower_over a m) i) k ≡ at (row_at (lower_over a o) i) k
lower-places a count m o i zero some same lt =
    lower_over-diagonal a m i some
    ∙ ap₂ (λ s t. s -ℤ t) (ap (λ row. floor_over a (at row 0)) (same i lt)) (slack-same a count m o i same lt)
    ∙ sym (lower_over-diagonal a o i some)
lower-places a count m o i (suc k) some same lt =
    lower_over-right a m i k some ∙ ap (λ row. floor_over a (at row (suc k))) (same i lt) ∙ sym (lower_over-right a o i k some)

upper-places : (a : ℤ) (count : ℕ) (m o : List (List ℤ)) (i k : ℕ) → pos 0 <ℤ a → SameFirstRows count m o → i < count → at (row_at (upper_over a m) i) k ≡ at (row_at (upper_over a o) i) k
upper-places a count m o i zero some same lt =
    upper_over-diagonal a m i some
    ∙ ap₂ (λ s t. s +ℤ t) (ap (λ row. ceil_over a (at row 0)) (same i lt)) (slack-same a count m o i same lt)
    ∙ sym (upper_over-diagonal a o i some)
upper-places a count m o i (suc k) some same lt =
    upper_over-right a m i k some ∙ ap (λ row. floor_over a (at row (suc k))) (same i lt) ∙ sym (upper_over-right a o i k some)

pub lower_over-first_rows : (a : ℤ) (n count : ℕ) (m o : List (List ℤ)) → pos 0 <ℤ a → IsTriangle n m → IsTriangle n o → SameFirstRows count m o → SameFirstRows count (lower_over a m) (lower_over a o)
lower_over-first_rows a n count m o some left right same i lt =
    rows_by_places n (lower_over a m) (lower_over a o) i (triangle-lower_over a n m left) (triangle-lower_over a n o right) (λ inside k. lower-places a count m o i k some same lt)

pub upper_over-first_rows : (a : ℤ) (n count : ℕ) (m o : List (List ℤ)) → pos 0 <ℤ a → IsTriangle n m → IsTriangle n o → SameFirstRows count m o → SameFirstRows count (upper_over a m) (upper_over a o)
upper_over-first_rows a n count m o some left right same i lt =
    rows_by_places n (upper_over a m) (upper_over a o) i (triangle-upper_over a n m left) (triangle-upper_over a n o right) (λ inside k. upper-places a count m o i k some same lt)
