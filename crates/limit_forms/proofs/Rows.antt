-- A row of the grid matrices, as it is written place by place.
use Rattle.std.proofs.Common.{◌≡◌, ℕ, zero, suc, ◌+◌, ◌-◌, ◌<◌, ◌≤◌, Bool, List, [], ◌∷◌, length, take, set, sym, ◌∙◌, ap, ap₂, arith, ℤ, pos, ◌+ℤ◌, ◌-ℤ◌}
use Rattle.std.proofs.Math.ListN.{length-set}
use Rattle.std.proofs.lemmas.List.{get_or-set_same, get_or-set_other, take_all}
use Rattle.whole_algebra.specs.Sums.{int_sum}
use Rattle.whole_algebra.specs.Rounding.{floor_over, gap_over}
use Rattle.whole_algebra.specs.Matrices.{at, entries, slacks, IsTriangle}
use Rattle.whole_algebra.specs.Chains.{beside}
use Rattle.whole_algebra.specs.Grid.{row_at, above}
use Rattle.whole_algebra.proofs.Rounding.{gap_of_zero}
use Rattle.whole_algebra.proofs.Shapes.{length-row_at, triangle-entries}
use Rattle.whole_algebra.proofs.Places.{same_list, at-beside, at-row_at-entries, lower_over-right, upper_over-right, lower_over-diagonal, upper_over-diagonal, at-off_sums, int_sum-take_more}
use Rattle.geo_model.specs.Limit.{SquareOf}
use Rattle.geo_model.specs.Network.{NetworkOf}
use Rattle.limit_forms.specs.Grid.{on_grid, grid_step, lower_grid, upper_grid}
use Rattle.limit_forms.proofs.GridEntries.{step_above, lower_triangle, upper_triangle}

-- ---- slack
-- one entry more above the diagonal
pub above_more : (m : List (List ℤ)) (j k : ℕ) (gap : ℤ) → gap_over grid_step (at (row_at m k) (j - k)) ≡ gap
    → above (entries (gap_over grid_step) m) j (k + 1) ≡ above (entries (gap_over grid_step) m) j k +ℤ gap
above_more m j k gap is =
    ap (λ i. above (entries (gap_over grid_step) m) j i) (one_more k)
    ∙ ap (λ t. above (entries (gap_over grid_step) m) j k +ℤ t) (at-row_at-entries (gap_over grid_step) (gap_of_zero grid_step step_above) m k (j - k) ∙ is)
  where
    one_more : (k : ℕ) → k + 1 ≡ suc k
    one_more k = omega arith

-- one entry more right of it
pub right_more : (m : List (List ℤ)) (k i : ℕ) (gap : ℤ) → 1 ≤ i → gap_over grid_step (at (row_at m k) i) ≡ gap
    → int_sum (take ((i + 1) - 1) (beside (row_at (entries (gap_over grid_step) m) k))) ≡ int_sum (take (i - 1) (beside (row_at (entries (gap_over grid_step) m) k))) +ℤ gap
right_more m k i gap one is =
    let row = row_at (entries (gap_over grid_step) m) k in
    ap (λ t. int_sum (take t (beside row))) (back i one)
    ∙ int_sum-take_more (beside row) (i - 1)
    ∙ ap (λ t. int_sum (take (i - 1) (beside row)) +ℤ t)
    (at-beside row (i - 1) ∙ ap (λ t. at row t) (place i one) ∙ at-row_at-entries (gap_over grid_step) (gap_of_zero grid_step step_above) m k i ∙ is)
  where
    back : (i : ℕ) → 1 ≤ i → (i + 1) - 1 ≡ (i - 1) + 1
    back i one = omega arith

    place : (i : ℕ) → 1 ≤ i → suc (i - 1) ≡ i
    place i one = omega arith

length-beside : (row : List ℤ) → length (beside row) ≡ length row - 1
length-beside [] = omega arith
length-beside (x ∷ row) = omega arith

-- both together are the slack of the row
pub slack_of_row : (n : ℕ) (m : List (List ℤ)) (k len : ℕ) (left right : ℤ) → IsTriangle n m → k < n → len + k ≡ n
    → left ≡ above (entries (gap_over grid_step) m) k k → right ≡ int_sum (take (len - 1) (beside (row_at (entries (gap_over grid_step) m) k)))
    → left +ℤ right ≡ at (slacks grid_step m) k
slack_of_row n m k len left right t lt long first second =
    let row = row_at (entries (gap_over grid_step) m) k in
    let size = length-row_at n (entries (gap_over grid_step) m) k (triangle-entries (gap_over grid_step) n m t) lt in
    let short = length-beside row in
    ap₂ (λ s t. s +ℤ t) first (second ∙ ap int_sum (take_all (len - 1) (beside row) (omega arith)))
    ∙ sym (at-off_sums (entries (gap_over grid_step) m) k)

-- ---- whole rows
row_is : (row given : List ℤ) (head : ℤ) → length row ≡ length given → 0 < length row → head ≡ at given 0
    → ((i : ℕ) → 1 ≤ i → i < length row → at row i ≡ at given i) → set row 0 head ≡ given
row_is row given head e some first rest =
    same_list (set row 0 head) given (length-set row 0 head ∙ e) (by_place row given head some first rest)
  where
    by_place : (row given : List ℤ) (head : ℤ) → 0 < length row → head ≡ at given 0 → ((i : ℕ) → 1 ≤ i → i < length row → at row i ≡ at given i)
        → (i : ℕ) → i < length (set row 0 head) → at (set row 0 head) i ≡ at given i
    by_place row given head some first rest zero lt = get_or-set_same row 0 head (pos 0) some ∙ first
    by_place row given head some first rest (suc i) lt =
        get_or-set_other row 0 (suc i) head (pos 0) (λ e. absurd (omega arith))
        ∙ rest (suc i) (omega arith) (omega (arith, length-set row 0 head))

lower_head : (network : NetworkOf) (plan : List Bool) (alpha : ℤ) (squares : List SquareOf) (k : ℕ) (number slack : ℤ) → number ≡ floor_over grid_step (at (row_at (on_grid network plan alpha squares) k) 0)
    → slack ≡ at (slacks grid_step (on_grid network plan alpha squares)) k → number -ℤ slack ≡ at (row_at (lower_grid network plan alpha squares) k) 0
unfolding lower_grid
lower_head network plan alpha squares k number slack head loose =
    ap₂ (λ s t. s -ℤ t) head loose ∙ sym (lower_over-diagonal grid_step (on_grid network plan alpha squares) k step_above)

lower_rest : (network : NetworkOf) (plan : List Bool) (alpha : ℤ) (squares : List SquareOf) (k i : ℕ) → 1 ≤ i
    → floor_over grid_step (at (row_at (on_grid network plan alpha squares) k) i) ≡ at (row_at (lower_grid network plan alpha squares) k) i
unfolding lower_grid
lower_rest network plan alpha squares k zero one = absurd (omega arith)
lower_rest network plan alpha squares k (suc i) one = sym (lower_over-right grid_step (on_grid network plan alpha squares) k i step_above)

pub lower_row : (network : NetworkOf) (plan : List Bool) (alpha : ℤ) (squares : List SquareOf) (k : ℕ) (row : List ℤ) (number slack : ℤ) → k < length network.unknowns → length row + k ≡ length network.unknowns
    → number ≡ floor_over grid_step (at (row_at (on_grid network plan alpha squares) k) 0) → slack ≡ at (slacks grid_step (on_grid network plan alpha squares)) k
    → ((i : ℕ) → 1 ≤ i → i < length row → at row i ≡ floor_over grid_step (at (row_at (on_grid network plan alpha squares) k) i))
    → set row 0 (number -ℤ slack) ≡ row_at (lower_grid network plan alpha squares) k
lower_row network plan alpha squares k row number slack lt long head loose right =
    let size = length-row_at (length network.unknowns) (lower_grid network plan alpha squares) k (lower_triangle network plan alpha squares) lt in
    row_is row (row_at (lower_grid network plan alpha squares) k) (number -ℤ slack) (omega arith) (omega arith)
    (lower_head network plan alpha squares k number slack head loose)
    (λ i one inside. right i one inside ∙ lower_rest network plan alpha squares k i one)

upper_head : (network : NetworkOf) (plan : List Bool) (alpha : ℤ) (squares : List SquareOf) (k : ℕ) (number gap slack : ℤ) → number ≡ floor_over grid_step (at (row_at (on_grid network plan alpha squares) k) 0)
    → gap_over grid_step (at (row_at (on_grid network plan alpha squares) k) 0) ≡ gap
    → slack ≡ at (slacks grid_step (on_grid network plan alpha squares)) k → (number +ℤ gap) +ℤ slack ≡ at (row_at (upper_grid network plan alpha squares) k) 0
unfolding upper_grid
upper_head network plan alpha squares k number gap slack head part loose =
    ap₂ (λ s t. s +ℤ t) (ap₂ (λ s t. s +ℤ t) head (sym part)) loose ∙ sym (upper_over-diagonal grid_step (on_grid network plan alpha squares) k step_above)

upper_rest : (network : NetworkOf) (plan : List Bool) (alpha : ℤ) (squares : List SquareOf) (k i : ℕ) → 1 ≤ i
    → floor_over grid_step (at (row_at (on_grid network plan alpha squares) k) i) ≡ at (row_at (upper_grid network plan alpha squares) k) i
unfolding upper_grid
upper_rest network plan alpha squares k zero one = absurd (omega arith)
upper_rest network plan alpha squares k (suc i) one = sym (upper_over-right grid_step (on_grid network plan alpha squares) k i step_above)

pub upper_row : (network : NetworkOf) (plan : List Bool) (alpha : ℤ) (squares : List SquareOf) (k : ℕ) (row : List ℤ) (number gap slack : ℤ) → k < length network.unknowns → length row + k ≡ length network.unknowns
    → number ≡ floor_over grid_step (at (row_at (on_grid network plan alpha squares) k) 0) → gap_over grid_step (at (row_at (on_grid network plan alpha squares) k) 0) ≡ gap
    → slack ≡ at (slacks grid_step (on_grid network plan alpha squares)) k
    → ((i : ℕ) → 1 ≤ i → i < length row → at row i ≡ floor_over grid_step (at (row_at (on_grid network plan alpha squares) k) i))
    → set row 0 ((number +ℤ gap) +ℤ slack) ≡ row_at (upper_grid network plan alpha squares) k
upper_row network plan alpha squares k row number gap slack lt long head part loose right =
    let size = length-row_at (length network.unknowns) (upper_grid network plan alpha squares) k (upper_triangle network plan alpha squares) lt in
    row_is row (row_at (upper_grid network plan alpha squares) k) ((number +ℤ gap) +ℤ slack) (omega arith) (omega arith)
    (upper_head network plan alpha squares k number gap slack head part loose)
    (λ i one inside. right i one inside ∙ upper_rest network plan alpha squares k i one)
