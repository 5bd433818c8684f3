-- The diagonals of a chain's matrices stay low.
use Rattle.std.proofs.Common.{◌≡◌, ℕ, zero, suc, ◌-◌, ◌*◌, ◌≤◌, List, [], ◌∷◌, map, length, refl, ◌∙◌, arith, ℤ, pos, ◌+ℤ◌, ◌-ℤ◌, ◌≤ℤ◌, ◌<ℤ◌}
use Rattle.std.proofs.lemmas.Int.{ints}
use Rattle.whole_algebra.specs.Sums.{int_sum}
use Rattle.whole_algebra.specs.Rounding.{floor_over, gap_over}
use Rattle.whole_algebra.specs.Matrices.{at, entries, schur, diagonal, slacks, lower_over, upper_over, IsTriangle}
use Rattle.whole_algebra.specs.Chains.{beside, left_after, matrix_after}
use Rattle.whole_algebra.specs.Grid.{row_at, entry, above}
use Rattle.whole_algebra.proofs.Order.{le_refl, add_nonneg, square_nonneg}
use Rattle.whole_algebra.proofs.Rounding.{floor_at_most, gap_range, gap_of_zero}
use Rattle.whole_algebra.proofs.Shapes.{at-diagonal-schur, triangle-schur, triangle-upper_over}
use Rattle.whole_algebra.proofs.Places.{at-diagonal, row_at-entries, at-row_at-entries, at-off_sums, lower_over-diagonal}
use Rattle.whole_algebra.proofs.ChainLaws.{step_cases, positive}
use Rattle.whole_algebra.proofs.Refutation.{upper_diagonal}

-- ---- a slack is not negative
int_sum-gaps : (a : ℤ) (row : List ℤ) → pos 0 ≤ℤ int_sum (map (gap_over a) row)
int_sum-gaps a [] = le_refl (pos 0)
int_sum-gaps a (z ∷ row) = add_nonneg (gap_over a z) (int_sum (map (gap_over a) row)) (gap_range a z).0 (int_sum-gaps a row)

beside-gaps : (a : ℤ) (row : List ℤ) → pos 0 ≤ℤ int_sum (beside (map (gap_over a) row))
beside-gaps a [] = le_refl (pos 0)
beside-gaps a (z ∷ row) = int_sum-gaps a row

above-gaps : (a : ℤ) (m : List (List ℤ)) (j k : ℕ) → pos 0 <ℤ a → pos 0 ≤ℤ above (entries (gap_over a) m) j k
above-gaps a m j zero some = le_refl (pos 0)
above-gaps a m j (suc k) some =
    let e = at-row_at-entries (gap_over a) (gap_of_zero a some) m k (j - k) in
    let g = (gap_range a (at (row_at m k) (j - k))).0 in
    add_nonneg (above (entries (gap_over a) m) j k) (entry (entries (gap_over a) m) k j) (above-gaps a m j k some) (rw e g)

pub slack_nonneg : (a : ℤ) (m : List (List ℤ)) (i : ℕ) → pos 0 <ℤ a → pos 0 ≤ℤ at (slacks a m) i
slack_nonneg a m i some =
    let e = at-off_sums (entries (gap_over a) m) i in
    let right : pos 0 ≤ℤ int_sum (beside (row_at (entries (gap_over a) m) i)) = rw (row_at-entries (gap_over a) m i) (beside-gaps a (row_at m i)) in
    let left = above-gaps a m i i some in
    omega (arith, ints)

-- ---- the lower chain: no diagonal entry grows
lower_diagonal : (a h : ℤ) (b : List ℤ) (m : List (List ℤ)) → pos 0 <ℤ a → ((i : ℕ) → at (diagonal m) i ≤ℤ h) → (i : ℕ) → at (diagonal (lower_over a (schur a b m))) i ≤ℤ h
lower_diagonal a h b m some high i =
    let s = schur a b m in
    let head = at (row_at s i) 0 in
    let c = at (diagonal m) i in
    let here = at-diagonal (lower_over a s) i ∙ lower_over-diagonal a s i some in
    let same = at-diagonal s i in
    let entry = at-diagonal-schur a b m i in
    let square = square_nonneg (at b i) in
    let floor = floor_at_most a head c some (omega (arith, ints)) in
    let slack = slack_nonneg a s i some in
    by (at (diagonal (lower_over a s)) i) (floor_over a head) (at (slacks a s) i) c here floor slack (high i)
  where
    by : (u f k c : ℤ) → u ≡ f -ℤ k → f ≤ℤ c → pos 0 ≤ℤ k → c ≤ℤ h → u ≤ℤ h
    by u f k c e l n g = omega (arith, ints)

-- what bounds all places of a list is not negative
bound_nonneg : (xs : List ℤ) (h : ℤ) → ((i : ℕ) → at xs i ≤ℤ h) → pos 0 ≤ℤ h
bound_nonneg [] h high = high zero
bound_nonneg (x ∷ xs) h high = bound_nonneg xs h (λ i. high (suc i))

-- what a stop leaves
none_left : (over : ℤ → List (List ℤ) → List (List ℤ)) (t i : ℕ) → at (diagonal (matrix_after over t [])) i ≡ pos 0
none_left over zero i = refl
none_left over (suc t) i = refl

none_at_most : (over : ℤ → List (List ℤ) → List (List ℤ)) (t i : ℕ) (h : ℤ) → pos 0 ≤ℤ h → at (diagonal (matrix_after over t [])) i ≤ℤ h
none_at_most over t i h nonneg = let e = none_left over t i in omega (arith, ints)

pub lower_diagonals : (t : ℕ) (m : List (List ℤ)) (h : ℤ) → ((i : ℕ) → at (diagonal m) i ≤ℤ h) → (i : ℕ) → at (diagonal (matrix_after lower_over t m)) i ≤ℤ h
lower_diagonals zero m h high i = high i
lower_diagonals (suc t) [] h high i = high i
lower_diagonals (suc t) ([] ∷ rest) h high i = lower_diagonals t rest h (λ k. high (suc k)) i
lower_diagonals (suc t) ((a ∷ b) ∷ rest) h high i =
    let below : (k : ℕ) → at (diagonal rest) k ≤ℤ h = λ k. high (suc k) in
    let nonneg = bound_nonneg (diagonal rest) h below in
    step_cases (λ s. at (diagonal (matrix_after lower_over t (left_after lower_over s b rest))) i ≤ℤ h) a b
    (λ _. lower_diagonals t rest h below i)
    (λ _ _. none_at_most lower_over t i h nonneg)
    (λ _ _. none_at_most lower_over t i h nonneg)
    (λ above _. lower_diagonals t (lower_over a (schur a b rest)) h (lower_diagonal a h b rest (positive a above) below) i)

-- ---- the upper chain: a diagonal entry grows by at most 64 a step
pub upper_diagonals : (n t : ℕ) (m : List (List ℤ)) (h : ℤ) → IsTriangle n m → n ≤ 64 → ((i : ℕ) → at (diagonal m) i ≤ℤ h)
    → (i : ℕ) → at (diagonal (matrix_after upper_over t m)) i ≤ℤ (h +ℤ pos (64 * t))
upper_diagonals n zero m h shape few high i = let k = high i in omega (arith, ints)
upper_diagonals n (suc t) [] h shape few high i = let k = high i in omega (arith, ints)
upper_diagonals zero (suc t) (row ∷ rest) h shape few high i = absurd shape
upper_diagonals (suc n) (suc t) ([] ∷ rest) h shape few high i = absurd (omega (arith, shape.0))
upper_diagonals (suc n) (suc t) ((a ∷ b) ∷ rest) h shape few high i =
    let below : (k : ℕ) → at (diagonal rest) k ≤ℤ h = λ k. high (suc k) in
    let width : length b ≡ n = omega (arith, shape.0) in
    let nonneg = bound_nonneg (diagonal rest) h below in
    let more : pos 0 ≤ℤ (h +ℤ pos (64 * suc t)) = omega (arith, ints) in
    step_cases (λ s. at (diagonal (matrix_after upper_over t (left_after upper_over s b rest))) i ≤ℤ (h +ℤ pos (64 * suc t))) a b
    (λ _. let k = upper_diagonals n t rest h shape.1 (omega arith) below i in omega (arith, ints))
    (λ _ _. none_at_most upper_over t i (h +ℤ pos (64 * suc t)) more)
    (λ _ _. none_at_most upper_over t i (h +ℤ pos (64 * suc t)) more)
    (λ above _.
    let k = upper_diagonals n t (upper_over a (schur a b rest)) (h +ℤ pos n) (triangle-upper_over a n (schur a b rest) (triangle-schur a n b rest width shape.1)) (omega arith)
    (upper_diagonal a h n b rest (positive a above) width shape.1 below) i in
    omega (arith, ints))
