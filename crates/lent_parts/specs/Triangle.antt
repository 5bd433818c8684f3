-- Symmetric matrices of whole numbers, kept as triangles of rows: row k holds the entries of row k of the matrix from
-- the diagonal on. This project's own layout.
use Rattle.std.specs.Prelude.{◌≡◌, ℕ, zero, suc, ◌<◌, ◌≤◌, List, [], ◌∷◌, length, replicate, take, drop, ◌++◌, get_or, slice_set, ℤ, pos}

-- n rows, the first with n entries and each with one fewer than the row before
abbrev pub IsTri : ℕ → List (List ℤ) → Type 0
IsTri zero [] = Unit {0}
IsTri zero (row ∷ rest) = ⊥
IsTri (suc n) [] = ⊥
IsTri (suc n) (row ∷ rest) = (length row ≡ suc n) × IsTri n rest

-- the triangle of n rows with all entries 0
abbrev pub zero_tri : ℕ → List (List ℤ)
zero_tri zero = []
zero_tri (suc n) = replicate (suc n) (pos 0) ∷ zero_tri n

-- row k of a triangle, the empty row past its end
abbrev pub tri_row : List (List ℤ) → ℕ → List ℤ
tri_row rows k = get_or rows k []

-- the numbers of `filled` in place of the first ones of `row`, cut to its length
abbrev pub refilled : List ℤ → List ℤ → List ℤ
refilled row filled = take (length row) (filled ++ drop (length filled) row)

-- What a triangle keeps: at most 64 rows, a place among theirs whose row is held outside, and with the held row in that
-- place the shape of a triangle.
pub record IsKeptTriangle (rows : List (List ℤ)) (place : ℕ) (held : List ℤ) : Type 0 where
  pub few : length rows ≤ 64
  pub within : 0 < length rows → place < length rows
  pub shape : IsTri (length rows) (slice_set rows place held)
