-- How many candidates a node leaves open. This project's own.
use Rattle.std.specs.Prelude.{ℕ, suc, Bool, true, false, List, [], ◌∷◌}

-- the candidates in the upper plan and not in the inner one
abbrev pub open_count : List Bool → List Bool → ℕ
open_count [] upper = 0
open_count (x ∷ inside) [] = 0
open_count (true ∷ inside) (y ∷ upper) = open_count inside upper
open_count (false ∷ inside) (true ∷ upper) = suc (open_count inside upper)
open_count (false ∷ inside) (false ∷ upper) = open_count inside upper
