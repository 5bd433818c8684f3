use Rattle.std.proofs.lemmas.Bool.{false≢true}
use Rattle.std.proofs.Common.{◌≡◌, ℕ, zero, suc, Bool, true, false, List, [], ◌∷◌, length, set, replicate, refl, ap, Some}
use Rattle.std.specs.Prelude.{slice_get}
use Rattle.geo_model.specs.Energy.{IsWithin}

-- Laws of plans within plans.

-- each plan is within itself
pub IsWithin-refl : (plan : List Bool) → IsWithin plan plan
IsWithin-refl [] = tt
IsWithin-refl (chosen ∷ plan) = (λ h. h, IsWithin-refl plan)

-- what is within a plan that is within a third is within the third
pub IsWithin-trans : (a b c : List Bool) → IsWithin a b → IsWithin b c → IsWithin a c
IsWithin-trans [] [] c first second = second
IsWithin-trans [] (y ∷ b) c first second = absurd first
IsWithin-trans (x ∷ a) [] c first second = absurd first
IsWithin-trans (x ∷ a) (y ∷ b) [] first second = absurd second
IsWithin-trans (x ∷ a) (y ∷ b) (z ∷ c) first second = (λ h. second.0 (first.0 h), IsWithin-trans a b c first.1 second.1)

-- the empty plan is within each plan of its length
pub IsWithin-none : (plan : List Bool) → IsWithin (replicate (length plan) false) plan
IsWithin-none [] = tt
IsWithin-none (chosen ∷ plan) = (λ h. absurd (false≢true h), IsWithin-none plan)

-- each plan is within the full one of its length
pub IsWithin-all : (plan : List Bool) → IsWithin plan (replicate (length plan) true)
IsWithin-all [] = tt
IsWithin-all (chosen ∷ plan) = (λ h. refl, IsWithin-all plan)

-- a plan that holds a smaller one and a candidate holds the smaller one with the candidate
pub IsWithin-with : (small plan : List Bool) (i : ℕ) → IsWithin small plan → slice_get plan i ≡ Some true → IsWithin (set small i true) plan
IsWithin-with [] plan i within has = within
IsWithin-with (x ∷ small) [] i within has = absurd within
IsWithin-with (x ∷ small) (false ∷ plan) zero within has = absurd (cc)
IsWithin-with (x ∷ small) (true ∷ plan) zero within has = (λ h. refl, within.1)
IsWithin-with (x ∷ small) (y ∷ plan) (suc i) within has = (within.0, IsWithin-with small plan i within.1 has)

-- a plan within a larger one that lacks a candidate is within the larger one without the candidate
pub IsWithin-without : (plan large : List Bool) (i : ℕ) → IsWithin plan large → slice_get plan i ≡ Some false → IsWithin plan (set large i false)
IsWithin-without [] [] i within lacks = tt
IsWithin-without [] (y ∷ large) i within lacks = absurd within
IsWithin-without (x ∷ plan) [] i within lacks = absurd within
IsWithin-without (true ∷ plan) (y ∷ large) zero within lacks = absurd (cc)
IsWithin-without (false ∷ plan) (y ∷ large) zero within lacks = (λ h. absurd (false≢true h), within.1)
IsWithin-without (x ∷ plan) (y ∷ large) (suc i) within lacks = (within.0, IsWithin-without plan large i within.1 lacks)

-- plans within one another are as long
pub IsWithin-length : (small large : List Bool) → IsWithin small large → length small ≡ length large
IsWithin-length [] [] within = refl
IsWithin-length [] (y ∷ large) within = absurd within
IsWithin-length (x ∷ small) [] within = absurd within
IsWithin-length (x ∷ small) (y ∷ large) within = ap suc (IsWithin-length small large within.1)
