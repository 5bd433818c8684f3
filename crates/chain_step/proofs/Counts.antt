-- The slack of a row, from what the rows before it counted.
use Rattle.std.proofs.Common.{◌≡◌, ℕ, zero, suc, ◌+◌, ◌-◌, ◌<◌, ◌≤◌, List, length, refl, sym, ◌∙◌, ap, ap₂, arith, ℤ, pos, ◌+ℤ◌, ◌*ℤ◌, neg_ℤ, ◌≤ℤ◌}
use Rattle.std.proofs.lemmas.Int.{ints}
use Rattle.whole_algebra.specs.Rounding.{gap_over}
use Rattle.whole_algebra.specs.Matrices.{at}
use Rattle.whole_algebra.proofs.Ring.{add_zero, mul_comm}
use Rattle.whole_algebra.proofs.Rounding.{gap_range}
use Rattle.lent_parts.specs.Triangle.{IsTri, tri_row}
use Rattle.lent_parts.proofs.Triangles.{length-tri_row}
use Rattle.chain_step.specs.Step.{gap_at, sum_from, left_of, column_in, left_slack, gap_count}
use Rattle.chain_step.proofs.Gaps.{counted}

-- ---- sums
pub sums_agree : (f g : ℕ → ℤ) (p n : ℕ) → ((j : ℕ) → j < n → f (p + j) ≡ g (p + j)) → sum_from f p n ≡ sum_from g p n
sums_agree f g p zero h = refl
sums_agree f g p (suc n) h = ap₂ (λ s t. s +ℤ t) (sums_agree f g p n (λ j lt. h j (omega arith))) (h n (omega arith))

added_sums : (f g : ℕ → ℤ) (p n : ℕ) → sum_from (λ j. f j +ℤ g j) p n ≡ sum_from f p n +ℤ sum_from g p n
added_sums f g p zero = refl
added_sums f g p (suc n) = ap (λ s. s +ℤ (f (p + n) +ℤ g (p + n))) (added_sums f g p n) ∙ crosswise (sum_from f p n) (sum_from g p n) (f (p + n)) (g (p + n))
  where
    crosswise : (a b c d : ℤ) → (a +ℤ b) +ℤ (c +ℤ d) ≡ (a +ℤ c) +ℤ (b +ℤ d)
    crosswise a b c d = omega (arith, ints)

-- a triangle of numbers, summed by its rows and by its columns
crossed : (f : ℕ → ℕ → ℤ) (k : ℕ) → sum_from (λ j. sum_from (λ t. f t (j - t)) 0 j) 0 k ≡ sum_from (λ t. sum_from (f t) 1 (k - t - 1)) 0 k
crossed f zero = refl
crossed f (suc k) =
    ap₂ (λ s t. s +ℤ t) (crossed f k) (ap (λ j. sum_from (λ t. f t (j - t)) 0 j) (same k))
    ∙ sym (ap₂ (λ s t. s +ℤ t)
    (sums_agree (λ t. sum_from (f t) 1 (suc k - t - 1)) (λ t. sum_from (f t) 1 (k - t - 1) +ℤ f t (k - t)) 0 k (λ j lt. longer (0 + j) (omega arith))
    ∙ added_sums (λ t. sum_from (f t) 1 (k - t - 1)) (λ t. f t (k - t)) 0 k)
    (ap (sum_from (f (0 + k)) 1) (none k))
    ∙ add_zero (sum_from (λ t. sum_from (f t) 1 (k - t - 1)) 0 k +ℤ sum_from (λ t. f t (k - t)) 0 k))
  where
    same : (k : ℕ) → 0 + k ≡ k
    same k = omega arith

    none : (k : ℕ) → suc k - (0 + k) - 1 ≡ 0
    none k = omega arith

    one_more : (t : ℕ) → t < k → suc k - t - 1 ≡ suc (k - t - 1)
    one_more t lt = omega arith

    last : (t : ℕ) → t < k → 1 + (k - t - 1) ≡ k - t
    last t lt = omega arith

    longer : (t : ℕ) → t < k → sum_from (f t) 1 (suc k - t - 1) ≡ sum_from (f t) 1 (k - t - 1) +ℤ f t (k - t)
    longer t lt = ap (sum_from (f t) 1) (one_more t lt) ∙ ap (λ j. sum_from (f t) 1 (k - t - 1) +ℤ f t j) (last t lt)

-- ---- counts by rows alone
pub left_slack_same : (before other : List (List ℤ)) (long count : ℕ) → ((t : ℕ) → t < count → tri_row before t ≡ tri_row other t) → left_slack before long count ≡ left_slack other long count
left_slack_same before other long count h =
    sums_agree (λ t. left_of (tri_row before t) (column_in (tri_row before t) long)) (λ t. left_of (tri_row other t) (column_in (tri_row other t) long)) 0 count
    (λ j lt. ap (λ row. left_of row (column_in row long)) (h (0 + j) (omega arith)))

pub gap_count_same : (before other : List (List ℤ)) (long m count : ℕ) → ((t : ℕ) → t < count → tri_row before t ≡ tri_row other t) → gap_count before long m count ≡ gap_count other long m count
gap_count_same before other long m count h =
    sums_agree (λ t. gap_at (tri_row before t) (column_in (tri_row before t) long) (column_in (tri_row before t) long + m))
    (λ t. gap_at (tri_row other t) (column_in (tri_row other t) long) (column_in (tri_row other t) long + m)) 0 count
    (λ j lt. ap (λ row. gap_at row (column_in row long) (column_in row long + m)) (h (0 + j) (omega arith)))

pub gap_count_range : (before : List (List ℤ)) (long m count : ℕ) → (pos 0 ≤ℤ gap_count before long m count) × (gap_count before long m count ≤ℤ pos count)
gap_count_range before long m count =
    counted (λ t. gap_at (tri_row before t) (column_in (tri_row before t) long) (column_in (tri_row before t) long + m)) 0 count
    (λ t. gap_range (at (tri_row before t) 0) (neg_ℤ (at (tri_row before t) (column_in (tri_row before t) long) *ℤ at (tri_row before t) (column_in (tri_row before t) long + m))))

-- the counts of the rows before row k, in its column, sum up to its slack
pub slack_counted : (n k : ℕ) (rows gaps : List (List ℤ)) → IsTri n rows → k < n
    → ((j m : ℕ) → j < k → 1 ≤ m → j + m < n → at (tri_row gaps j) m ≡ gap_count rows (n - j) m j)
    → sum_from (λ j. at (tri_row gaps j) (k - j)) 0 k ≡ left_slack rows (n - k) k
slack_counted n k rows gaps shape lt known =
    sums_agree (λ j. at (tri_row gaps j) (k - j)) (λ j. sum_from (λ t. turned t (j - t)) 0 j) 0 k (λ j inside. by_row (0 + j) (omega arith))
    ∙ (crossed turned k
    ∙ sums_agree (λ t. sum_from (turned t) 1 (k - t - 1)) (λ t. left_of (tri_row rows t) (column_in (tri_row rows t) (n - k))) 0 k (λ t inside. by_column (0 + t) (omega arith)))
  where
    turned : ℕ → ℕ → ℤ
    turned t d = gap_at (tri_row rows t) (k - t) d

    symmetric : (row : List ℤ) (i j : ℕ) → gap_at row i j ≡ gap_at row j i
    symmetric row i j = ap (λ z. gap_over (at row 0) (neg_ℤ z)) (mul_comm (at row i) (at row j))

    tall : (t : ℕ) → t < k → length (tri_row rows t) ≡ n - t
    tall t inside = length-tri_row n rows t shape (omega arith)

    column : (t j : ℕ) → t < j → j ≤ k → column_in (tri_row rows t) (n - j) ≡ j - t
    column t j less le = let e = tall t (omega arith) in omega arith

    across : (t j : ℕ) → t < j → j < k → (j - t) + (k - j) ≡ k - t
    across t j less le = omega arith

    by_row : (j : ℕ) → j < k → at (tri_row gaps j) (k - j) ≡ sum_from (λ t. turned t (j - t)) 0 j
    by_row j inside =
        known j (k - j) inside (omega arith) (omega arith)
        ∙ sums_agree (λ t. gap_at (tri_row rows t) (column_in (tri_row rows t) (n - j)) (column_in (tri_row rows t) (n - j) + (k - j))) (λ t. turned t (j - t)) 0 j
        (λ t less. entry (0 + t) j (omega arith) inside)
      where
        entry : (t j : ℕ) → t < j → j < k → gap_at (tri_row rows t) (column_in (tri_row rows t) (n - j)) (column_in (tri_row rows t) (n - j) + (k - j)) ≡ gap_at (tri_row rows t) (k - t) (j - t)
        entry t j less le =
            ap (λ c. gap_at (tri_row rows t) c (c + (k - j))) (column t j less (omega arith))
            ∙ (ap (gap_at (tri_row rows t) (j - t)) (across t j less le) ∙ symmetric (tri_row rows t) (j - t) (k - t))

    by_column : (t : ℕ) → t < k → sum_from (turned t) 1 (k - t - 1) ≡ left_of (tri_row rows t) (column_in (tri_row rows t) (n - k))
    by_column t inside = ap (left_of (tri_row rows t)) (sym (column t k inside (omega arith)))
