use Rattle.std.proofs.Common.{◌≡◌, ◌<◌, ℕ, zero, suc, Bool, true, false, List, [], ◌∷◌, length, arith, refl, ap, Some, None}
use Rattle.std.specs.Prelude.{slice_get, Option, IfNone}
use Rattle.std.proofs.lemmas.Bool.{false≢true}
use Rattle.geo_model.specs.Energy.{IsWithin}

-- Laws of nodes.

-- a node that leaves no candidate open has one plan
pub same_plans : (inside upper : List Bool) → IsWithin inside upper →
    ((k : ℕ) → k < length inside → slice_get upper k ≡ Some true → slice_get inside k ≡ Some false → ⊥) → inside ≡ upper
same_plans [] [] within shut = refl
same_plans [] (y ∷ upper) within shut = absurd within
same_plans (x ∷ inside) [] within shut = absurd within
same_plans (true ∷ inside) (true ∷ upper) within shut = ap (λ rest. true ∷ rest) (same_plans inside upper within.1 (λ k below. shut (suc k) (omega arith)))
same_plans (true ∷ inside) (false ∷ upper) within shut = absurd (false≢true (within.0 refl))
same_plans (false ∷ inside) (true ∷ upper) within shut = absurd (shut zero (omega arith) refl refl)
same_plans (false ∷ inside) (false ∷ upper) within shut = ap (λ rest. false ∷ rest) (same_plans inside upper within.1 (λ k below. shut (suc k) (omega arith)))

-- what holds where there is none
pub if_none : {X : Type 0} (P : Type 0) (found : Option X) → ((x : X) → found ≡ Some x → ⊥) → IfNone found P → P
if_none P None not given = given
if_none P (Some x) not given = absurd (not x refl)
