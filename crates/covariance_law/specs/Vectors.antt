-- Vectors and matrices of whole numbers by their entries: a vector of n entries is a function of the numbers below n, a
-- matrix is one of two such numbers. Sums, products and forms are the usual ones of linear algebra.
use Rattle.std.specs.Prelude.{ℕ, zero, suc, ℤ, pos, ◌+ℤ◌, ◌*ℤ◌}

abbrev pub Vector : Type 0
Vector = ℕ → ℤ

abbrev pub Matrix : Type 0
Matrix = ℕ → ℕ → ℤ

-- the sum of f over the numbers below n
abbrev pub vector_sum : ℕ → (ℕ → ℤ) → ℤ
vector_sum zero f = pos 0
vector_sum (suc n) f = vector_sum n f +ℤ f n

-- the product x' y
abbrev pub inner : ℕ → Vector → Vector → ℤ
inner n x y = vector_sum n (λ i. x i *ℤ y i)

-- the vector m x
abbrev pub applied : ℕ → Matrix → Vector → Vector
applied n m x = λ i. inner n (m i) x

-- the quadratic form x' m x
abbrev pub form : ℕ → Matrix → Vector → ℤ
form n m x = inner n x (applied n m x)
