-- Interval chains: the pivots of a matrix, rounded to whole numbers from below or from above, and what two chains tell
-- of a form. This project's own; without the rounding it is the usual elimination by pivots.
use Rattle.std.specs.Prelude.{ℕ, zero, suc, ◌-◌, ◌^◌, Bool, true, false, cond, ◌&&◌, List, [], ◌∷◌, map, length, get_or, ℤ, pos, ◌*ℤ◌, neg_ℤ, int_lt, int_le}
use Rattle.std.specs.List.{list_all, list_any}
use Rattle.whole_algebra.specs.Rounding.{is_zero}
use Rattle.whole_algebra.specs.Matrices.{schur, lower_over, upper_over}

-- a step of a chain: a row of zeros, a pivot, or the end with its value
pub data Step : Type 0 where
  free : Step
  pivot : ℤ → Step
  stop : ℤ → Step

-- the greatest size that is reckoned with
abbrev pub size_limit : ℤ
size_limit = pos (2 ^ 61)

-- some number of b is too large to stand beside the pivot a: its square is above a times the limit
abbrev pub is_too_large : ℤ → List ℤ → Bool
is_too_large a b = list_any (λ c. int_lt (a *ℤ size_limit) (c *ℤ c)) b

-- the step that a first row gives
abbrev pub step_of : List ℤ → Step
step_of [] = free
step_of (a ∷ b) =
    cond (is_zero a && list_all is_zero b) free
    (cond (int_le a (pos 0)) (stop a)
    (cond (is_too_large a b) (stop (neg_ℤ size_limit)) (pivot a)))

-- the row without its diagonal entry
abbrev pub beside : List ℤ → List ℤ
beside [] = []
beside (a ∷ b) = b

-- what a step with the row b leaves of the rows below: after a pivot their entries c_ij - b_i b_j / a, rounded by `over`
abbrev pub left_after : (ℤ → List (List ℤ) → List (List ℤ)) → Step → List ℤ → List (List ℤ) → List (List ℤ)
left_after over free b rest = rest
left_after over (pivot a) b rest = over a (schur a b rest)
left_after over (stop v) b rest = []

-- the smaller matrix after a first row; it has no rows after a stop
abbrev pub next : (ℤ → List (List ℤ) → List (List ℤ)) → List ℤ → List (List ℤ) → List (List ℤ)
next over row rest = left_after over (step_of row) (beside row) rest

-- the first row of each matrix of a chain of at most n steps
abbrev pub chain_rows : (ℤ → List (List ℤ) → List (List ℤ)) → ℕ → List (List ℤ) → List (List ℤ)
chain_rows over zero m = []
chain_rows over (suc n) [] = []
chain_rows over (suc n) (row ∷ rest) = row ∷ chain_rows over n (next over row rest)

-- the matrix after t steps
abbrev pub matrix_after : (ℤ → List (List ℤ) → List (List ℤ)) → ℕ → List (List ℤ) → List (List ℤ)
matrix_after over zero m = m
matrix_after over (suc t) [] = []
matrix_after over (suc t) (row ∷ rest) = matrix_after over t (next over row rest)

abbrev pub chain_steps : (ℤ → List (List ℤ) → List (List ℤ)) → ℕ → List (List ℤ) → List Step
chain_steps over n m = map step_of (chain_rows over n m)

-- the steps of the lower and of the upper chain of a matrix
abbrev pub lower_chain : List (List ℤ) → List Step
lower_chain m = chain_steps lower_over (length m) m

abbrev pub upper_chain : List (List ℤ) → List Step
upper_chain m = chain_steps upper_over (length m) m

abbrev pub is_stop : Step → Bool
is_stop free = false
is_stop (pivot a) = false
is_stop (stop v) = true

abbrev pub stops : List Step → Bool
stops s = list_any is_stop s

-- the number of the step that stops, counted from 1; 0 where none does
abbrev pub stop_place : List Step → ℕ
stop_place [] = 0
stop_place (free ∷ s) = cond (stops s) (suc (stop_place s)) 0
stop_place (pivot a ∷ s) = cond (stops s) (suc (stop_place s)) 0
stop_place (stop v ∷ s) = 1

-- the value of the step that stops
abbrev pub stop_value : List Step → ℤ
stop_value [] = pos 0
stop_value (free ∷ s) = stop_value s
stop_value (pivot a ∷ s) = stop_value s
stop_value (stop v ∷ s) = v

abbrev pub pivot_value : Step → ℤ
pivot_value free = pos 0
pivot_value (pivot a) = a
pivot_value (stop v) = pos 0

-- the pivot of step k, counted from 1; 0 where that step is free
abbrev pub pivot_at : List Step → ℕ → ℤ
pivot_at s k = pivot_value (get_or s (k - 1) free)

-- what a lower and an upper matrix tell of the form between them: it isn't negative, it is somewhere negative, or
-- neither is shown, with the step where the lower chain stops and the two numbers between which the true pivot lies
pub data Outcome : Type 0 where
  met : Outcome
  refuted : Outcome
  open_at : ℕ → ℤ → ℤ → Outcome

abbrev pub outcome_of : List Step → List Step → Outcome
outcome_of low high =
    cond (stops low)
    (cond (stops high) refuted (open_at (stop_place low) (stop_value low) (pivot_at high (stop_place low))))
    met

abbrev pub chains_outcome : List (List ℤ) → List (List ℤ) → Outcome
chains_outcome lower upper = outcome_of (lower_chain lower) (upper_chain upper)
