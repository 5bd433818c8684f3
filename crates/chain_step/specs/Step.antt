-- A step of a chain on one row below the pivot's, in the words of the private functions that take it: from `taken` on
-- these say how a step is reckoned from the row of the pivot alone, and serve the proofs. What a step is stands in
-- `Chains` of whole_algebra. This project's own.
use Rattle.std.specs.Prelude.{ℕ, zero, suc, ◌+◌, ◌-◌, ◌^◌, ◌≤◌, List, [], ◌∷◌, length, ℤ, pos, ◌+ℤ◌, ◌-ℤ◌, ◌*ℤ◌, neg_ℤ, ◌≤ℤ◌, ◌<ℤ◌, unsigned_abs, IsFalse}
use Rattle.whole_algebra.specs.Rounding.{floor_over, gap_over}
use Rattle.whole_algebra.specs.Matrices.{at, lower_over, upper_over}
use Rattle.whole_algebra.specs.Chains.{step_of, is_stop}
use Rattle.lent_parts.specs.Triangle.{tri_row}
use Rattle.chain_step.specs.declared.side.Side.{Side}
use Rattle.chain_step.specs.declared.side.Side.TheVariants.{Lower, Upper}

-- how the chain of a side divides what a pivot leaves
abbrev pub over_of : Side → ℤ → List (List ℤ) → List (List ℤ)
over_of Lower = lower_over
over_of Upper = upper_over

-- the row of a step that doesn't stop, with a head of at most 2 ^ 61
pub record IsPivotRow (pivot : List ℤ) : Type 0 where
  pub goes_on : IsFalse (is_stop (step_of pivot))
  pub few : length pivot ≤ 64
  pub head : at pivot 0 ≤ℤ pos (2 ^ 61)

-- what the pivot adds to the entry of row k and column j: the number over the pivot, rounded down, and 1 where it isn't whole
abbrev pub taken : List ℤ → ℕ → ℕ → ℤ
taken pivot k j = floor_over (at pivot 0) (neg_ℤ (at pivot k *ℤ at pivot j))

abbrev pub gap_at : List ℤ → ℕ → ℕ → ℤ
gap_at pivot k j = gap_over (at pivot 0) (neg_ℤ (at pivot k *ℤ at pivot j))

-- the sum of f over `count` numbers from `first` on
abbrev pub sum_from : (ℕ → ℤ) → ℕ → ℕ → ℤ
sum_from f first zero = pos 0
sum_from f first (suc count) = sum_from f first count +ℤ f (first + count)

-- how many entries of row k aren't whole, left of its diagonal but for the pivot's column, and right of it
abbrev pub left_of : List ℤ → ℕ → ℤ
left_of pivot k = sum_from (gap_at pivot k) 1 (k - 1)

abbrev pub right_of : List ℤ → ℕ → ℤ
right_of pivot k = sum_from (gap_at pivot k) (k + 1) (length pivot - (k + 1))

-- the slack of row k: how many of its entries aren't whole, over all columns but the pivot's and its own
abbrev pub slack_of : List ℤ → ℕ → ℤ
slack_of pivot k = left_of pivot k +ℤ right_of pivot k

-- a number of the diagonal, with its own gap and the slack of its row
abbrev pub with_slack : Side → ℤ → ℤ → ℤ → ℤ
with_slack Lower number gap slack = number -ℤ slack
with_slack Upper number gap slack = number +ℤ (gap +ℤ slack)

-- a row with a slack that its diagonal lacks
abbrev pub with_left : Side → ℤ → List ℤ → List ℤ
with_left side slack [] = []
with_left side slack (head ∷ beside) = with_slack side head (pos 0) slack ∷ beside

-- ---- what a row of `long` entries takes from the rows before it, up to their number `count`: the first rows of the
-- matrices of a chain, in each of which its diagonal stands as many columns from the end

-- the column of its diagonal in a row before it
abbrev pub column_in : List ℤ → ℕ → ℕ
column_in pivot long = length pivot - long

-- how many of its entries left of the diagonal aren't whole, in all these steps
abbrev pub left_slack : List (List ℤ) → ℕ → ℕ → ℤ
left_slack before long count = sum_from (λ t. left_of (tri_row before t) (column_in (tri_row before t) long)) 0 count

-- in how many of these steps its entry m places right of the diagonal isn't whole
abbrev pub gap_count : List (List ℤ) → ℕ → ℕ → ℕ → ℤ
gap_count before long m count =
    sum_from (λ t. gap_at (tri_row before t) (column_in (tri_row before t) long) (column_in (tri_row before t) long + m)) 0 count

-- the row of a pivot that can be divided by, and what it adds stays small
pub record IsDividing (pivot : List ℤ) : Type 0 where
  pub above : pos 0 <ℤ at pivot 0
  pub few : length pivot ≤ 64
  pub each_size : (j : ℕ) → unsigned_abs (at pivot j) ≤ 2 ^ 61
  pub taken_size : (i j : ℕ) → 1 ≤ i → 1 ≤ j → unsigned_abs (taken pivot i j) ≤ 2 ^ 61
