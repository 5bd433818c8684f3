-- Triangles to which the products of a row are added, entry by entry.
use Rattle.std.proofs.Common.{◌≡◌, ◌≢◌, ℕ, zero, suc, ◌+◌, ◌-◌, ◌*◌, ◌^◌, ◌<◌, ◌≤◌, inl, inr, ℤ, pos, ◌+ℤ◌, ◌*ℤ◌, List, [], ◌∷◌, length, take, get_or, refl, sym, ◌∙◌, ap, subst, arith, lit<}
use Rattle.std.specs.Prelude.{All, AllPairs, unsigned_abs, slice_set}
use Rattle.std.proofs.lemmas.Int.{ints}
use Rattle.std.proofs.lemmas.List.{get_or-set_same, get_or-set_other}
use Rattle.std.proofs.lemmas.List.Elements.{All-head, All-tail, All-take}
use Rattle.std.proofs.lemmas.Bool.{cases_eq}
use Rattle.whole_algebra.specs.Sums.{int_sum_by}
use Rattle.whole_algebra.specs.Matrices.{at}
use Rattle.whole_algebra.specs.Grid.{row_at, entry}
use Rattle.whole_algebra.proofs.Normal.{ring, x0, x1, x2, x3, x4, lit, ◌⊕◌, ◌⊗◌}
use Rattle.lent_parts.specs.Triangle.{IsTri, tri_row}
use Rattle.lent_parts.proofs.Triangles.{length-IsTri, length-tri_row}
use Rattle.geo_model.specs.Row.{Entries, RowOf, IsRow, total_size, unit_at}
use Rattle.geo_model.proofs.SizeLemmas.{light}
use Rattle.normal_matrix.specs.Entries.{coefficient, row_entry}
use Rattle.whole_algebra.proofs.Order.{size-add, size-mul}
use Rattle.whole_algebra.proofs.SumLaws.{int_sum_by-more}
use Rattle.normal_matrix.proofs.SumSteps.{coefficient-more_here, coefficient-more_elsewhere, coefficient-size, coefficient-take-size, unit_at-same, unit_at-other}

-- an entry of a row, by its column
pub entry_in_row : (rows : List (List ℤ)) (i k : ℕ) → entry rows i (i + k) ≡ at (tri_row rows i) k
entry_in_row rows i k = ap (λ j. at (row_at rows i) j) (back i k)
  where
    back : (i k : ℕ) → (i + k) - i ≡ k
    back i k = omega arith

weighted_size : (weight a b : ℤ) → unsigned_abs weight ≤ 1000000 → unsigned_abs a ≤ 2 ^ 23 → unsigned_abs b ≤ 2 ^ 23 → unsigned_abs (weight *ℤ (a *ℤ b)) ≤ 2 ^ 66
weighted_size weight a b w h k =
    let p = size-mul a b (2 ^ 23) (2 ^ 23) h k in
    let q = size-mul weight (a *ℤ b) 1000000 (2 ^ 46) w (omega arith) in
    omega arith

pub factor_size : (weight a : ℤ) → unsigned_abs weight ≤ 1000000 → unsigned_abs a ≤ 2 ^ 23 → unsigned_abs (weight *ℤ a) ≤ 2 ^ 43
factor_size weight a w h = let q = size-mul weight a 1000000 (2 ^ 23) w h in omega arith

-- an entry with some of the products added is small
pub partial_size : (before now weight : ℤ) (entries : Entries) (q i j : ℕ) → now ≡ before +ℤ weight *ℤ (coefficient (take q entries) i *ℤ coefficient entries j)
    → unsigned_abs before ≤ 2 ^ 101 → unsigned_abs weight ≤ 1000000 → total_size entries < 2 ^ 23 → unsigned_abs now ≤ 2 ^ 102
partial_size before now weight entries q i j is small w total =
    let a = coefficient-take-size entries q i in
    let b = coefficient-size entries j in
    let part = weighted_size weight (coefficient (take q entries) i) (coefficient entries j) w (omega arith) (omega arith) in
    let both = size-add before (weight *ℤ (coefficient (take q entries) i *ℤ coefficient entries j)) in
    rw is (omega arith)

-- the line that is lent has small entries
pub line_is_small : (n : ℕ) (old rows : List (List ℤ)) (weight : ℤ) (entries : Entries) (q c : ℕ) → IsTri n rows → c < n
    → ((i j : ℕ) → i ≤ j → j < n → unsigned_abs (entry old i j) ≤ 2 ^ 101)
    → ((i j : ℕ) → i ≤ j → j < n → entry rows i j ≡ entry old i j +ℤ weight *ℤ (coefficient (take q entries) i *ℤ coefficient entries j))
    → unsigned_abs weight ≤ 1000000 → total_size entries < 2 ^ 23
    → (k : ℕ) → k < length (tri_row rows c) → unsigned_abs (at (tri_row rows c) k) ≤ 2 ^ 102
line_is_small n old rows weight entries q c shape below small so_far w total k lt =
    let len = length-tri_row n rows c shape below in
    let right : c + k < n = omega arith in
    subst (λ z. unsigned_abs z ≤ 2 ^ 102) (entry_in_row rows c k)
    (partial_size (entry old c (c + k)) (entry rows c (c + k)) weight entries q c (c + k) (so_far c (c + k) (omega arith) right) (small c (c + k) (omega arith) right) w total)

row_at-same : (rows : List (List ℤ)) (c : ℕ) (line : List ℤ) → c < length rows → row_at (slice_set rows c line) c ≡ line
row_at-same rows c line lt = get_or-set_same rows c line [] lt

row_at-other : (rows : List (List ℤ)) (c i : ℕ) (line : List ℤ) → i ≢ c → row_at (slice_set rows c line) i ≡ row_at rows i
row_at-other rows c i line apart = get_or-set_other rows c i line [] apart

-- one row's line is written
pub row_step : (n : ℕ) (old rows : List (List ℤ)) (weight : ℤ) (entries : Entries) (q : ℕ) (d : ℕ × ℤ) (line : List ℤ)
    → IsTri n rows → q < length entries → (get_or entries q d).0 < n
    → ((i j : ℕ) → i ≤ j → j < n → entry rows i j ≡ entry old i j +ℤ weight *ℤ (coefficient (take q entries) i *ℤ coefficient entries j))
    → ((k : ℕ) → k < length (tri_row rows (get_or entries q d).0) → at line k ≡ at (tri_row rows (get_or entries q d).0) k +ℤ (weight *ℤ (get_or entries q d).1) *ℤ coefficient entries ((get_or entries q d).0 + k))
    → (i j : ℕ) → i ≤ j → j < n → entry (slice_set rows (get_or entries q d).0 line) i j ≡ entry old i j +ℤ weight *ℤ (coefficient (take (q + 1) entries) i *ℤ coefficient entries j)
row_step n old rows weight entries q d line shape inside below so_far written i j le lt =
    let c = (get_or entries q d).0 in
    let size = (get_or entries q d).1 in
    let rows_n = length-IsTri n rows shape in
    elim (cases_eq i c) [
      | inl here ↦
          let len = length-tri_row n rows c shape below in
          let place : j - i < length (tri_row rows c) = omega arith in
          let column : c + (j - i) ≡ j = omega arith in
          ap (λ r. at (row_at (slice_set rows c line) r) (j - i)) here
          ∙ ap (λ r. at r (j - i)) (row_at-same rows c line (omega arith))
          ∙ written (j - i) place
          ∙ ap (λ v. at (tri_row rows c) (j - i) +ℤ (weight *ℤ size) *ℤ coefficient entries v) column
          ∙ ap (λ r. at (tri_row rows r) (j - i) +ℤ (weight *ℤ size) *ℤ coefficient entries j) (sym here)
          ∙ ap (λ t. t +ℤ (weight *ℤ size) *ℤ coefficient entries j) (so_far i j le lt)
          ∙ ring ((x0 ⊕ x1 ⊗ (x2 ⊗ x3)) ⊕ (x1 ⊗ x4) ⊗ x3) (x0 ⊕ x1 ⊗ ((x2 ⊕ x4) ⊗ x3)) (entry old i j ∷ weight ∷ coefficient (take q entries) i ∷ coefficient entries j ∷ size ∷ []) refl
          ∙ ap (λ t. entry old i j +ℤ weight *ℤ (t *ℤ coefficient entries j)) (sym (coefficient-more_here entries q i d inside (sym here)))
      | inr apart ↦
          ap (λ r. at r (j - i)) (row_at-other rows c i line apart)
          ∙ so_far i j le lt
          ∙ ap (λ t. entry old i j +ℤ weight *ℤ (t *ℤ coefficient entries j)) (sym (coefficient-more_elsewhere entries q i d inside (λ e. apart (sym e))))
    ]

-- a column that no entry has
no_column : (entries : Entries) (i : ℕ) → All (λ entry. i < entry.0) entries → coefficient entries i ≡ pos 0
no_column [] i later = refl
no_column (entry ∷ rest) i later =
    let after = All-head (λ (e : ℕ × ℤ). i < e.0) entry rest later in
    let here = unit_at-other i entry.0 (λ e. absurd (omega arith)) in
    rw (here, no_column rest i (All-tail (λ (e : ℕ × ℤ). i < e.0) entry rest later)) (nothing entry.1)
  where
    nothing : (c : ℤ) → c *ℤ pos 0 +ℤ pos 0 ≡ pos 0
    nothing c = ring (x0 ⊗ lit 0 ⊕ lit 0) (lit 0) (c ∷ []) refl

-- where columns ascend, the coefficient at a column is one entry's, or 0
coefficient-below : (entries : Entries) (i b : ℕ) → AllPairs (λ (entry : ℕ × ℤ) (later : ℕ × ℤ). entry.0 < later.0) entries → All (λ entry. unsigned_abs entry.1 < b) entries → 0 < b
    → unsigned_abs (coefficient entries i) < b
coefficient-below [] i b ascend small some = some
coefficient-below (entry ∷ rest) i b ascend small some =
    let rest_ascend : AllPairs (λ (e : ℕ × ℤ) (later : ℕ × ℤ). e.0 < later.0) rest = λ k l d less inside. ascend (suc k) (suc l) d (omega arith) (omega arith) in
    let size = All-head (λ (e : ℕ × ℤ). unsigned_abs e.1 < b) entry rest small in
    let later = coefficient-below rest i b rest_ascend (All-tail (λ (e : ℕ × ℤ). unsigned_abs e.1 < b) entry rest small) some in
    elim (cases_eq entry.0 i) [
      | inl here ↦
          let none : coefficient rest i ≡ pos 0 = no_column rest i (λ k d inside. let up : entry.0 < (get_or rest k d).0 = ascend zero (suc k) d (omega arith) (omega arith) in omega arith) in
          let unit = unit_at-same i entry.0 here in
          alone entry.1 (unit_at i entry.0) (coefficient rest i) unit none size
      | inr apart ↦ others entry.1 (unit_at i entry.0) (coefficient rest i) (unit_at-other i entry.0 apart) later
    ]
  where
    alone : (c u z : ℤ) → u ≡ pos 1 → z ≡ pos 0 → unsigned_abs c < b → unsigned_abs (c *ℤ u +ℤ z) < b
    alone c u z e f h = let one : c *ℤ u ≡ c = ap (λ t. c *ℤ t) e ∙ ring (x0 ⊗ lit 1) x0 (c ∷ []) refl in omega (arith, ints)

    others : (c u z : ℤ) → u ≡ pos 0 → unsigned_abs z < b → unsigned_abs (c *ℤ u +ℤ z) < b
    others c u z e h = let none : c *ℤ u ≡ pos 0 = ap (λ t. c *ℤ t) e ∙ ring (x0 ⊗ lit 0) (lit 0) (c ∷ []) refl in omega (arith, ints)

row-coefficient : (row : RowOf) (i : ℕ) → IsRow row → unsigned_abs (coefficient row.entries i) < 2 ^ 21
row-coefficient row i bounds = coefficient-below row.entries i (2 ^ 21) bounds.sparse.ascending bounds.each_size (lit< tt)

-- what a row of a network adds is small
pub row_entry-size : (row : RowOf) (i j : ℕ) → IsRow row → unsigned_abs (row_entry row i j) ≤ 1000000 * 2 ^ 42
row_entry-size row i j bounds =
    let a = row-coefficient row i bounds in
    let b = row-coefficient row j bounds in
    let pair = size-mul (coefficient row.entries i) (coefficient row.entries j) (2 ^ 21) (2 ^ 21) (omega arith) (omega arith) in
    size-mul row.weight (coefficient row.entries i *ℤ coefficient row.entries j) 1000000 (2 ^ 42) (light row.weight bounds.weight_low bounds.weight_high) pair

pub rows_size : (rows : List RowOf) (i j : ℕ) → All IsRow rows → unsigned_abs (int_sum_by (λ row. row_entry row i j) rows) ≤ length rows * (1000000 * 2 ^ 42)
rows_size [] i j all = omega arith
rows_size (row ∷ rest) i j all =
    let first = row_entry-size row i j (All-head IsRow row rest all) in
    let later = rows_size rest i j (All-tail IsRow row rest all) in
    let both = size-add (row_entry row i j) (int_sum_by (λ r. row_entry r i j) rest) in
    omega arith

take_length : (rows : List RowOf) (k : ℕ) → length (take k rows) ≤ length rows
take_length [] zero = omega arith
take_length [] (suc k) = omega arith
take_length (row ∷ rest) zero = omega arith
take_length (row ∷ rest) (suc k) = let h = take_length rest k in omega arith

pub sum_is_small : (before now sign : ℤ) (rows : List RowOf) (k i j : ℕ) → now ≡ before +ℤ sign *ℤ int_sum_by (λ row. row_entry row i j) (take k rows)
    → unsigned_abs before ≤ 2 ^ 100 → unsigned_abs sign ≡ 1 → All IsRow rows → length rows ≤ 512 → unsigned_abs now ≤ 2 ^ 101
sum_is_small before now sign rows k i j is small one all few =
    let part = rows_size (take k rows) i j (All-take IsRow k rows all) in
    let short = take_length rows k in
    let signed = size-mul sign (int_sum_by (λ row. row_entry row i j) (take k rows)) 1 (512 * (1000000 * 2 ^ 42)) (omega arith) (omega arith) in
    let both = size-add before (sign *ℤ int_sum_by (λ row. row_entry row i j) (take k rows)) in
    rw is (omega arith)

-- one row more
pub rows_step : (before now next sign weight : ℤ) (rows : List RowOf) (k i j : ℕ) (row : RowOf) → k < length rows → row ≡ get_or rows k row
    → now ≡ before +ℤ sign *ℤ int_sum_by (λ r. row_entry r i j) (take k rows)
    → next ≡ now +ℤ (sign *ℤ row.weight) *ℤ (coefficient row.entries i *ℤ coefficient row.entries j)
    → next ≡ before +ℤ sign *ℤ int_sum_by (λ r. row_entry r i j) (take (k + 1) rows)
rows_step before now next sign weight rows k i j row inside is so_far step =
    step
    ∙ ap (λ t. t +ℤ (sign *ℤ row.weight) *ℤ (coefficient row.entries i *ℤ coefficient row.entries j)) so_far
    ∙ ring ((x0 ⊕ x1 ⊗ x2) ⊕ (x1 ⊗ x3) ⊗ x4) (x0 ⊕ x1 ⊗ (x2 ⊕ x3 ⊗ x4)) (before ∷ sign ∷ int_sum_by (λ r. row_entry r i j) (take k rows) ∷ row.weight ∷ (coefficient row.entries i *ℤ coefficient row.entries j) ∷ []) refl
    ∙ ap (λ t. before +ℤ sign *ℤ t) (ap (λ (r : RowOf). int_sum_by (λ r. row_entry r i j) (take k rows) +ℤ row_entry r i j) is ∙ sym (int_sum_by-more (λ r. row_entry r i j) rows k row inside))
