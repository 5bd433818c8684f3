use Rattle.std.proofs.Common.{◌≡◌, ℕ, zero, suc, Bool, true, false, List, [], ◌∷◌, refl, ap, Some, subst}
use Rattle.std.specs.Prelude.{slice_get, All}
use Rattle.std.proofs.lemmas.Option.{get_or_from_slice_get, slice_get_within}
use Rattle.geo_model.specs.Energy.{IsWithin}
use Rattle.geo_model.specs.Limit.{LimitOf, IsInForce}

-- Limits in force for larger plans, and what is named in a list.

-- what a plan chooses, each larger plan chooses
pub slice_get-grows : (small large : List Bool) (i : ℕ) → IsWithin small large → slice_get small i ≡ Some true → slice_get large i ≡ Some true
slice_get-grows [] large i within chosen = absurd (cc)
slice_get-grows (x ∷ small) [] i within chosen = absurd within
slice_get-grows (false ∷ small) (y ∷ large) zero within chosen = absurd (cc)
slice_get-grows (true ∷ small) (y ∷ large) zero within chosen = ap Some (within.0 refl)
slice_get-grows (x ∷ small) (y ∷ large) (suc i) within chosen = slice_get-grows small large i within.1 chosen

-- a limit in force for a plan is in force for each larger plan
pub IsInForce-grows : (limit : LimitOf) (small large : List Bool) → IsWithin small large → IsInForce limit small → IsInForce limit large
IsInForce-grows limit small large within owned = λ owner is. slice_get-grows small large owner within (owned owner is)

-- what holds of each element holds of the one at a place
pub at_place : {X : Type 0} (P : X → Type 0) (xs : List X) (i : ℕ) (x : X) → All P xs → slice_get xs i ≡ Some x → P x
at_place P xs i x all named =
    subst P (get_or_from_slice_get xs i x x named) (all i x (slice_get_within xs i x named))
