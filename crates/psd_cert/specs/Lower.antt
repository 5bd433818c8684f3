-- Steps of the lower chain, in the words of the private functions that take them. What a chain is stands in `Chains` of
-- whole_algebra. This project's own.
use Rattle.std.specs.Prelude.{◌≡◌, List, [], ◌∷◌, ℤ, IsTrue, IsFalse}
use Rattle.whole_algebra.specs.Matrices.{lower_over}
use Rattle.whole_algebra.specs.Chains.{next, step_of, is_stop}

-- the first step of the lower chain stops
abbrev pub StopsHere : List (List ℤ) → Type 0
StopsHere [] = ⊥
StopsHere (row ∷ rest) = IsTrue (is_stop (step_of row))

-- it doesn't stop, and leaves this matrix
abbrev pub Leaves : List (List ℤ) → List (List ℤ) → Type 0
Leaves [] m = ⊥
Leaves (row ∷ rest) m = IsFalse (is_stop (step_of row)) × (m ≡ next lower_over row rest)

-- the last of the remainders, or the first matrix where there is none yet
abbrev pub last_matrix : List (List ℤ) → List (List (List ℤ)) → List (List ℤ)
last_matrix first [] = first
last_matrix first (r ∷ rs) = last_matrix r rs
