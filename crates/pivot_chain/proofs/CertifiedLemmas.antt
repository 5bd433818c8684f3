use Rattle.std.proofs.Common.{get_or, ◌≡◌, ◌↔◌, ◌<◌, ℕ, zero, suc, Bool, true, IsTrue, List, [], ◌∷◌, length, arith, refl, sym, ◌∙◌, Some}
use Rattle.std.specs.Prelude.{slice_get}
use Rattle.std.proofs.lemmas.Option.{slice_get-get_or}
use Rattle.geo_model.specs.Limit.{LimitOf, IsInForce}
use Rattle.geo_model.specs.Network.{NetworkOf}
use Rattle.geo_model.specs.Verdicts.{IsCertifiedBy}
use Rattle.geo_model.specs.declared.verdict.Verdict.{Verdict}
use Rattle.geo_model.specs.declared.verdict.Verdict.TheVariants.{Met}
use Rattle.geo_model.proofs.RowLoads.{All-found}
use Rattle.pivot_chain.specs.Verdict.{verdict_of}
use Rattle.pivot_chain.specs.Certified.{IsCertified, IsMetAt}

-- What the verdicts of all limits say of a plan.

-- a limit of a number below the number of limits
pub limit_named : (limits : List LimitOf) (number : ℕ) → number < length limits → (limit : LimitOf) × (slice_get limits number ≡ Some limit)
limit_named [] number inside = absurd (omega arith)
limit_named (limit ∷ rest) zero inside = (limit, refl)
limit_named (limit ∷ rest) (suc number) inside = limit_named rest number (omega arith)

-- a limit in force is met just where the verdict on it is Met
pub met_when : (network : NetworkOf) (plan : List Bool) (number : ℕ) (in_force result : Bool) (verdict : Verdict) → number < length network.limits →
    ((l : LimitOf) → slice_get network.limits number ≡ Some l → IsTrue in_force ↔ IsInForce l plan) → in_force ≡ true →
    ((l : LimitOf) → slice_get network.limits number ≡ Some l → verdict ≡ verdict_of network plan l) → (IsTrue result ↔ (verdict ≡ Met)) →
    IsTrue result ↔ IsMetAt network plan number
met_when network plan number in_force result verdict inside forced is exact tests =
    let named = limit_named network.limits number inside in (
      λ yes limit here _. sym (exact limit here) ∙ tests.0 yes,
      λ met. tests.1 (exact named.0 named.1 ∙ met named.0 named.1 ((forced named.0 named.1).0 is)),
    )

-- a plan whose limits are all met, or not in force, is certified
pub certified_by : (network : NetworkOf) (plan : List Bool) → length plan ≡ length network.candidates →
    ((k : ℕ) → k < length network.limits → IsMetAt network plan k) → IsCertified network plan
certified_by network plan long met = record {
  long = long;
  certified = λ k d inside in_force. met k inside (get_or network.limits k d) (slice_get-get_or network.limits k d inside) in_force;
}

-- a limit that isn't met rules out that the plan is certified
pub met_at : (network : NetworkOf) (plan : List Bool) (number : ℕ) → IsCertifiedBy (verdict_of network) network plan → IsMetAt network plan number
met_at network plan number certified limit named in_force =
    All-found (λ l. IsInForce l plan → verdict_of network plan l ≡ Met) network.limits number limit named certified in_force
