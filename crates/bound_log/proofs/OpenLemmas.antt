-- How many candidates a node leaves open: what falls from a node to its children.
use Rattle.std.proofs.Common.{◌≡◌, ◌<◌, ℕ, zero, suc, Bool, true, false, List, [], ◌∷◌, replicate, Some, arith, refl, ap}
use Rattle.std.specs.Prelude.{slice_get, slice_set}
use Rattle.bound_log.specs.OpenCount.{open_count}

-- the node of all plans leaves each candidate open
pub open_count-root : (n : ℕ) → open_count (replicate n false) (replicate n true) ≡ n
open_count-root zero = refl
open_count-root (suc n) = ap suc (open_count-root n)

-- the child that chooses an open candidate leaves fewer open
pub open_count-with : (inside upper : List Bool) (i : ℕ) → slice_get upper i ≡ Some true → slice_get inside i ≡ Some false → open_count (slice_set inside i true) upper < open_count inside upper
open_count-with [] upper i is_open out = absurd (cc)
open_count-with (x ∷ inside) [] i is_open out = absurd (cc)
open_count-with (true ∷ inside) (y ∷ upper) zero is_open out = absurd (cc)
open_count-with (false ∷ inside) (false ∷ upper) zero is_open out = absurd (cc)
open_count-with (false ∷ inside) (true ∷ upper) zero is_open out = omega arith
open_count-with (true ∷ inside) (y ∷ upper) (suc i) is_open out = open_count-with inside upper i is_open out
open_count-with (false ∷ inside) (true ∷ upper) (suc i) is_open out = omega (arith, open_count-with inside upper i is_open out)
open_count-with (false ∷ inside) (false ∷ upper) (suc i) is_open out = open_count-with inside upper i is_open out

-- and so does the child that leaves it out
pub open_count-without : (inside upper : List Bool) (i : ℕ) → slice_get upper i ≡ Some true → slice_get inside i ≡ Some false → open_count inside (slice_set upper i false) < open_count inside upper
open_count-without [] upper i is_open out = absurd (cc)
open_count-without (x ∷ inside) [] i is_open out = absurd (cc)
open_count-without (true ∷ inside) (y ∷ upper) zero is_open out = absurd (cc)
open_count-without (false ∷ inside) (false ∷ upper) zero is_open out = absurd (cc)
open_count-without (false ∷ inside) (true ∷ upper) zero is_open out = omega arith
open_count-without (true ∷ inside) (y ∷ upper) (suc i) is_open out = open_count-without inside upper i is_open out
open_count-without (false ∷ inside) (true ∷ upper) (suc i) is_open out = omega (arith, open_count-without inside upper i is_open out)
open_count-without (false ∷ inside) (false ∷ upper) (suc i) is_open out = open_count-without inside upper i is_open out

-- where a candidate is open, the count isn't 0
pub open_below : (inside upper : List Bool) (i : ℕ) → slice_get upper i ≡ Some true → slice_get inside i ≡ Some false → 0 < open_count inside upper
open_below inside upper i is_open out = omega (arith, open_count-with inside upper i is_open out)
