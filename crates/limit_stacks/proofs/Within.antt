use Rattle.std.proofs.Common.{◌≡◌, ◌<◌, ℕ, zero, suc, Bool, true, List, [], ◌∷◌, length, arith, ap, Some}
use Rattle.std.specs.Prelude.{slice_get}
use Rattle.geo_model.specs.Energy.{IsWithin}

-- Plans that lie in others.

chosen : (b : Bool) → Some b ≡ Some true → b ≡ true
chosen b e = cc

-- a plan lies in itself
pub within_itself : (plan : List Bool) → IsWithin plan plan
within_itself [] = tt
within_itself (x ∷ plan) = (λ e. e, within_itself plan)

-- a plan lies in another one that has each of its candidates
pub within_by : (small large : List Bool) → length small ≡ length large →
    ((j : ℕ) → j < length small → slice_get small j ≡ Some true → slice_get large j ≡ Some true) → IsWithin small large
within_by [] [] same each = tt
within_by [] (y ∷ large) same each = absurd (omega (arith, same))
within_by (x ∷ small) [] same each = absurd (omega (arith, same))
within_by (x ∷ small) (y ∷ large) same each =
    (λ e. chosen y (each zero (omega arith) (ap Some e)), within_by small large (omega (arith, same)) (λ j below. each (suc j) (omega arith)))
