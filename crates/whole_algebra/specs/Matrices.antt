-- Symmetric matrices of whole numbers. A matrix is the list of its rows, each from the diagonal on, and what a list
-- lacks counts as 0. This project's own layout; the words on it are the usual ones of quadratic forms.
use Rattle.std.specs.Prelude.{ℕ, zero, suc, List, [], ◌∷◌, map, length, get_or, ℤ, pos, ◌+ℤ◌, ◌*ℤ◌, neg_ℤ, ◌≡◌}
use Rattle.whole_algebra.specs.Sums.{int_sum, dot}
use Rattle.whole_algebra.specs.Rounding.{floor_over, gap_over}

-- entry i of a list, 0 past its end
abbrev pub at : List ℤ → ℕ → ℤ
at xs i = get_or xs i (pos 0)

-- the sum place by place, as long as the longer list
abbrev pub plus_lists : List ℤ → List ℤ → List ℤ
plus_lists [] ys = ys
plus_lists (x ∷ xs) [] = x ∷ xs
plus_lists (x ∷ xs) (y ∷ ys) = (x +ℤ y) ∷ plus_lists xs ys

-- the multiple of a list
abbrev pub scale : ℤ → List ℤ → List ℤ
scale a xs = map (λ x. a *ℤ x) xs

-- a row with diagonal a and rest b, at the number x and the list y: a x^2 + 2 x (b . y)
abbrev pub row_quad : List ℤ → ℤ → List ℤ → ℤ
row_quad [] x y = pos 0
row_quad (a ∷ b) x y = a *ℤ (x *ℤ x) +ℤ pos 2 *ℤ (x *ℤ dot b y)

-- the quadratic form of a matrix on a list: the sum of the entries, each times the two numbers of its places
abbrev pub quad : List (List ℤ) → List ℤ → ℤ
quad [] x = pos 0
quad (row ∷ rest) [] = pos 0
quad (row ∷ rest) (x ∷ y) = row_quad row x y +ℤ quad rest y

-- f of each entry
abbrev pub entries : (ℤ → ℤ) → List (List ℤ) → List (List ℤ)
entries f m = map (λ row. map f row) m

abbrev pub plus_matrix : List (List ℤ) → List (List ℤ) → List (List ℤ)
plus_matrix [] n = n
plus_matrix (r ∷ m) [] = r ∷ m
plus_matrix (r ∷ m) (s ∷ n) = plus_lists r s ∷ plus_matrix m n

abbrev pub minus_matrix : List (List ℤ) → List (List ℤ) → List (List ℤ)
minus_matrix m n = plus_matrix m (entries neg_ℤ n)

-- what a pivot a with row b leaves of the matrix m, times a: the entries a m_ij - b_i b_j
abbrev pub schur : ℤ → List ℤ → List (List ℤ) → List (List ℤ)
schur a [] m = entries (λ z. a *ℤ z) m
schur a (c ∷ b) [] = scale (neg_ℤ c) (c ∷ b) ∷ schur a b []
schur a (c ∷ b) (row ∷ rest) = plus_lists (scale a row) (scale (neg_ℤ c) (c ∷ b)) ∷ schur a b rest

-- the entries on the diagonal
abbrev pub diagonal : List (List ℤ) → List ℤ
diagonal [] = []
diagonal ([] ∷ rest) = pos 0 ∷ diagonal rest
diagonal ((a ∷ b) ∷ rest) = a ∷ diagonal rest

-- for each row of the whole matrix, the sum of its entries off the diagonal
abbrev pub off_sums : List (List ℤ) → List ℤ
off_sums [] = []
off_sums ([] ∷ rest) = pos 0 ∷ off_sums rest
off_sums ((a ∷ b) ∷ rest) = int_sum b ∷ plus_lists b (off_sums rest)

-- with the numbers of a list added on the diagonal
abbrev pub plus_diagonal : List (List ℤ) → List ℤ → List (List ℤ)
plus_diagonal m [] = m
plus_diagonal [] (e ∷ d) = (e ∷ []) ∷ plus_diagonal [] d
plus_diagonal ([] ∷ rest) (e ∷ d) = (e ∷ []) ∷ plus_diagonal rest d
plus_diagonal ((a ∷ b) ∷ rest) (e ∷ d) = ((a +ℤ e) ∷ b) ∷ plus_diagonal rest d

-- how many entries off the diagonal of each row a doesn't divide
abbrev pub slacks : ℤ → List (List ℤ) → List ℤ
slacks a m = off_sums (entries (gap_over a) m)

-- the matrix over a from below: each entry rounded down, and the slack of its row taken off each diagonal entry
abbrev pub lower_over : ℤ → List (List ℤ) → List (List ℤ)
lower_over a m = plus_diagonal (entries (floor_over a) m) (map neg_ℤ (slacks a m))

-- the matrix over a from above: rounded down off the diagonal, rounded up on it, and the slack added there
abbrev pub upper_over : ℤ → List (List ℤ) → List (List ℤ)
upper_over a m = plus_diagonal (plus_diagonal (entries (floor_over a) m) (diagonal (entries (gap_over a) m))) (slacks a m)

-- n rows, the first with n entries and each with one fewer than the row before
abbrev pub IsTriangle : ℕ → List (List ℤ) → Type 0
IsTriangle zero [] = Unit {0}
IsTriangle zero (row ∷ rest) = ⊥
IsTriangle (suc n) [] = ⊥
IsTriangle (suc n) (row ∷ rest) = (length row ≡ suc n) × IsTriangle n rest

-- the first n numbers of a list, filled up with zeros
abbrev pub padded : ℕ → List ℤ → List ℤ
padded zero x = []
padded (suc n) [] = pos 0 ∷ padded n []
padded (suc n) (z ∷ x) = z ∷ padded n x
