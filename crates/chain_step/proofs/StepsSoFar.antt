-- A row that has taken some of the steps before it.
use Rattle.std.proofs.Common.{◌≡◌, ℕ, zero, suc, ◌+◌, ◌-◌, ◌*◌, ◌^◌, ◌<◌, ◌≤◌, List, length, sym, ◌∙◌, ap, ap₂, subst, arith, ℤ, pos, ◌+ℤ◌, ◌≤ℤ◌, unsigned_abs}
use Rattle.std.proofs.lemmas.Int.{ints}
use Rattle.whole_algebra.specs.Matrices.{IsTriangle}
use Rattle.whole_algebra.specs.Chains.{step_of, is_stop, matrix_after}
use Rattle.whole_algebra.specs.Grid.{row_at}
use Rattle.whole_algebra.proofs.Shapes.{length-row_at}
use Rattle.lent_parts.specs.Triangle.{tri_row}
use Rattle.chain_step.specs.Step.{over_of, IsPivotRow, gap_at, sum_from, left_of, with_slack, column_in, left_slack, gap_count}
use Rattle.chain_step.specs.declared.side.Side.{Side}
use Rattle.chain_step.specs.declared.side.Side.TheVariants.{Lower, Upper}
use Rattle.chain_step.proofs.Gaps.{one_more, left_range}
use Rattle.chain_step.proofs.Matrices.{after_more, triangle_after}

-- the step after t steps, on the row of place k
pub one_step_more : (side : Side) (n k t long : ℕ) (before matrix : List (List ℤ)) (row new : List ℤ)
    → IsTriangle n matrix → k + long ≡ n → length before ≤ k → t < length before
    → ((s : ℕ) → s < length before → row_at (matrix_after (over_of side) s matrix) 0 ≡ tri_row before s)
    → ((s : ℕ) → s < length before → IsPivotRow (tri_row before s))
    → row ≡ row_at (matrix_after (over_of side) t matrix) (k - t)
    → ((m : List (List ℤ)) → IsTriangle (length (tri_row before t)) m → row_at m 0 ≡ tri_row before t → row_at m (length (tri_row before t) - long) ≡ row
    → new ≡ row_at (matrix_after (over_of side) 1 m) (length (tri_row before t) - long - 1))
    → new ≡ row_at (matrix_after (over_of side) (t + 1) matrix) (k - (t + 1))
one_step_more side n k t long before matrix row new shape place few inside known pivots so_far step =
    let m = matrix_after (over_of side) t matrix in
    let triangle : IsTriangle (n - t) m = triangle_after side t n matrix shape (omega arith) (λ s l. ap (λ r. is_stop (step_of r)) (known s (omega arith)) ∙ (pivots s (omega arith)).goes_on) in
    let tall_row = length-row_at (n - t) m 0 triangle (omega arith) in
    let same = ap length (known t inside) in
    let tall : length (tri_row before t) ≡ n - t = omega arith in
    let at_place : length (tri_row before t) - long ≡ k - t = omega arith in
    step m (subst (λ j. IsTriangle j m) (sym tall) triangle) (known t inside) (ap (row_at m) at_place ∙ sym so_far)
    ∙ ap₂ (λ q j. row_at q j) (sym (after_more (over_of side) t matrix) ∙ ap (λ j. matrix_after (over_of side) j matrix) (next t)) (placed (length (tri_row before t) - long) k t at_place)
  where
    next : (t : ℕ) → suc t ≡ t + 1
    next t = omega arith

    placed : (d k t : ℕ) → d ≡ k - t → d - 1 ≡ k - (t + 1)
    placed d k t e = omega arith

pub size_more : (old new : ℤ) (t : ℕ) → unsigned_abs old ≤ 2 ^ 109 + t * 2 ^ 62 → unsigned_abs new ≤ unsigned_abs old + 2 ^ 62 → unsigned_abs new ≤ 2 ^ 109 + (t + 1) * 2 ^ 62
size_more old new t h g = omega arith

pub head_more : (old new : ℤ) (t : ℕ) → old ≤ℤ pos (2 ^ 60 + 64 + t * 64) → new ≤ℤ (old +ℤ pos 64) → new ≤ℤ pos (2 ^ 60 + 64 + (t + 1) * 64)
head_more old new t h g = omega (arith, ints)

pub counts_more : (old new : ℤ) (t : ℕ) → unsigned_abs old ≤ t → unsigned_abs new ≤ unsigned_abs old + 1 → unsigned_abs new ≤ t + 1
counts_more old new t h g = omega arith

-- ---- what the rows before it leave to a row
next_sum : (f : ℕ → ℤ) (t : ℕ) → sum_from f 0 (t + 1) ≡ sum_from f 0 t +ℤ f t
next_sum f t = one_more f 0 t ∙ ap (λ j. sum_from f 0 t +ℤ f j) (same t)
  where
    same : (t : ℕ) → 0 + t ≡ t
    same t = omega arith

pub left_slack_more : (before : List (List ℤ)) (long t : ℕ) → left_slack before long (t + 1) ≡ left_slack before long t +ℤ left_of (tri_row before t) (column_in (tri_row before t) long)
left_slack_more before long t = next_sum (λ s. left_of (tri_row before s) (column_in (tri_row before s) long)) t

pub gap_count_more : (before : List (List ℤ)) (long m t : ℕ)
    → gap_count before long m (t + 1) ≡ gap_count before long m t +ℤ gap_at (tri_row before t) (column_in (tri_row before t) long) (column_in (tri_row before t) long + m)
gap_count_more before long m t = next_sum (λ s. gap_at (tri_row before s) (column_in (tri_row before s) long) (column_in (tri_row before s) long + m)) t

pub left_slack_range : (before : List (List ℤ)) (long count : ℕ) → ((t : ℕ) → t < count → length (tri_row before t) ≤ 64)
    → (pos 0 ≤ℤ left_slack before long count) × (left_slack before long count ≤ℤ pos (64 * count))
left_slack_range before long zero h = (omega (arith, ints), omega (arith, ints))
left_slack_range before long (suc count) h =
    let more = left_slack_range before long count (λ t lt. h t (omega arith)) in
    let few = h count (omega arith) in
    let one = left_range (tri_row before count) (column_in (tri_row before count) long) (omega arith) in
    let next = ap (left_slack before long) (plus_one count) ∙ left_slack_more before long count in
    added (left_slack before long count) (left_of (tri_row before count) (column_in (tri_row before count) long)) (left_slack before long (suc count)) count next more.0 more.1 one.0 one.1
  where
    plus_one : (k : ℕ) → suc k ≡ k + 1
    plus_one k = omega arith

    added : (s t u : ℤ) (k : ℕ) → u ≡ s +ℤ t → pos 0 ≤ℤ s → s ≤ℤ pos (64 * k) → pos 0 ≤ℤ t → t ≤ℤ pos 64 → (pos 0 ≤ℤ u) × (u ≤ℤ pos (64 * suc k))
    added s t u k e a b c d = (omega (arith, ints), omega (arith, ints))

pub slack_range : (before : List (List ℤ)) (long t : ℕ) (slack : ℤ) → slack ≡ left_slack before long (length before)
    → ((s : ℕ) → s < length before → IsPivotRow (tri_row before s)) → t ≡ length before → (pos 0 ≤ℤ slack) × (slack ≤ℤ pos (64 * t))
slack_range before long t slack e pivots all =
    let range = left_slack_range before long (length before) (λ s lt. (pivots s lt).few) in
    carried slack (left_slack before long (length before)) (length before) t e all range.0 range.1
  where
    carried : (s u : ℤ) (k t : ℕ) → s ≡ u → t ≡ k → pos 0 ≤ℤ u → u ≤ℤ pos (64 * k) → (pos 0 ≤ℤ s) × (s ≤ℤ pos (64 * t))
    carried s u k t e f low high = (omega (arith, ints), omega (arith, ints))

pub slack_size : (s : ℤ) (k : ℕ) → k ≤ 64 → pos 0 ≤ℤ s → s ≤ℤ pos (64 * k) → unsigned_abs s ≤ 2 ^ 40
slack_size s k few low high = omega (arith, ints)

-- its head with the slack that it lacked
pub whole_head : (side : Side) (head slack : ℤ) (count : ℕ) → count < 2 ^ 32 → head ≤ℤ pos (2 ^ 60 + 64 + count * 64) → pos 0 ≤ℤ slack → slack ≤ℤ pos (64 * count)
    → with_slack side head (pos 0) slack ≤ℤ pos (2 ^ 61)
whole_head Lower head slack count few h a b = omega (arith, ints)
whole_head Upper head slack count few h a b = omega (arith, ints)
