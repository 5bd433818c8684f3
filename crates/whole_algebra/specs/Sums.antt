-- Sums and products of lists of whole numbers. This project's own words for the usual ones.
use Rattle.std.specs.Prelude.{List, [], ◌∷◌, ℤ, pos, ◌+ℤ◌, ◌*ℤ◌}

-- the sum of a list of whole numbers
abbrev pub int_sum : List ℤ → ℤ
int_sum [] = pos 0
int_sum (x ∷ xs) = x +ℤ int_sum xs

-- the sum of f over a list
abbrev pub int_sum_by : {X : Type 0} → (X → ℤ) → List X → ℤ
int_sum_by f [] = pos 0
int_sum_by f (x ∷ xs) = f x +ℤ int_sum_by f xs

-- the sum of the products place by place, up to the shorter end
abbrev pub dot : List ℤ → List ℤ → ℤ
dot [] ys = pos 0
dot (x ∷ xs) [] = pos 0
dot (x ∷ xs) (y ∷ ys) = x *ℤ y +ℤ dot xs ys
