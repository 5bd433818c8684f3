-- Matrices made of numbered unknowns, and their scaling onto a grid. This project's own words for the usual things.
use Rattle.std.specs.Prelude.{◌≡◌, ℕ, ◌<◌, List, [], ◌∷◌, map, get_or, ◌-◌, zero, suc, ℤ, pos, ◌+ℤ◌, ◌*ℤ◌}
use Rattle.whole_algebra.specs.Matrices.{at, scale}

-- the product place by place, as long as the shorter list
abbrev pub times_lists : List ℤ → List ℤ → List ℤ
times_lists [] ys = []
times_lists (x ∷ xs) [] = []
times_lists (x ∷ xs) (y ∷ ys) = (x *ℤ y) ∷ times_lists xs ys

-- each entry times the numbers of its two places
abbrev pub scaled : List ℤ → List (List ℤ) → List (List ℤ)
scaled [] m = []
scaled (w ∷ ws) [] = []
scaled (w ∷ ws) (row ∷ rest) = scale w (times_lists (w ∷ ws) row) ∷ scaled ws rest

-- the matrix of the numbers f i j over the unknowns of a list, in its order
abbrev pub packed : (ℕ → ℕ → ℤ) → List ℕ → List (List ℤ)
packed f [] = []
packed f (u ∷ us) = map (f u) (u ∷ us) ∷ packed f us

-- row i of a matrix, and its entry in row i and column j, where i is at most j
abbrev pub row_at : List (List ℤ) → ℕ → List ℤ
row_at m i = get_or m i []

abbrev pub entry : List (List ℤ) → ℕ → ℕ → ℤ
entry m i j = at (row_at m i) (j - i)

-- the sum of the first k entries of column j
abbrev pub above : List (List ℤ) → ℕ → ℕ → ℤ
above m j zero = pos 0
above m j (suc k) = above m j k +ℤ entry m k j

-- the first rows of two matrices, so many of them, are the same: all entries with a row or a column among these
abbrev pub SameFirstRows : ℕ → List (List ℤ) → List (List ℤ) → Type 0
SameFirstRows count m o = (i : ℕ) → i < count → row_at m i ≡ row_at o i
