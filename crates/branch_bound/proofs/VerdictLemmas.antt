use Rattle.std.proofs.Common.{get_or, ◌≡◌, ◌↔◌, ◌<◌, ℕ, ℤ, Bool, true, IsTrue, List, length, refl, sym, subst, Some}
use Rattle.std.specs.Prelude.{slice_get, IfOk, Result, Ok, Err}
use Rattle.std.proofs.lemmas.Option.{slice_get_read, slice_get-get_or, get_or_from_slice_get}
use Rattle.geo_model.specs.Limit.{LimitOf, IsInForce}
use Rattle.geo_model.specs.Network.{NetworkOf}
use Rattle.geo_model.specs.Verdicts.{IsRefutedBy as IsRefutedPlan}
use Rattle.geo_model.specs.declared.plan.Node.{Node}
use Rattle.geo_model.specs.declared.verdict.Verdict.{Verdict}
use Rattle.geo_model.specs.declared.verdict.Verdict.TheVariants.{Met, Refuted, Open}
use Rattle.pivot_chain.specs.Verdict.{verdict_of}
use Rattle.pivot_chain.proofs.CertifiedLemmas.{limit_named, met_at}
use Rattle.pivot_chain.proofs.Verdicts.{open_interval}
use Rattle.bound_log.specs.LogTree.{IsNodeRefutedBy}
use Rattle.branch_bound.specs.Explored.{IsNode}
use Rattle.branch_bound.specs.Searched.{IsUnsettled, IsMetAt, IsOpenLimit, IsFirstOpen}

-- What the verdicts of all limits say of a plan or a node.

-- the verdict on a limit that is in force is open
pub open_by : (network : NetworkOf) (plan : List Bool) (number step : ℕ) (lo hi : ℤ) (in_force : Bool) → number < length network.limits →
    ((l : LimitOf) → slice_get network.limits number ≡ Some l → IsTrue in_force ↔ IsInForce l plan) → in_force ≡ true →
    ((l : LimitOf) → slice_get network.limits number ≡ Some l → Open step lo hi ≡ verdict_of network plan l) →
    IsOpenLimit network plan number step lo hi
open_by network plan number step lo hi in_force inside forced is exact =
    let named = limit_named network.limits number inside in
    record { limit = named.0; named = named.1; in_force = (forced named.0 named.1).0 is; open_here = sym (exact named.0 named.1) }

-- a limit refutes a node just where it is in force for the inner plan and the verdict on the upper one is Refuted
pub refuted_when : (network : NetworkOf) (node : Node) (number : ℕ) (in_force result : Bool) → number < length network.limits →
    ((l : LimitOf) → slice_get network.limits number ≡ Some l → IsTrue in_force ↔ IsInForce l node.inside) → in_force ≡ true →
    ((l : LimitOf) → slice_get network.limits number ≡ Some l → IsTrue result ↔ (verdict_of network node.upper l ≡ Refuted)) →
    IsTrue result ↔ IsNodeRefutedBy network node number
refuted_when network node number in_force result inside forced is exact =
    let named = limit_named network.limits number inside in (
      λ yes. record { limit = named.0; named = named.1; owned = (forced named.0 named.1).0 is; refuted = (exact named.0 named.1).0 yes },
      λ refuted. (exact refuted.limit refuted.named).1 refuted.refuted,
    )

-- the same of an answer that may be refused
pub refuted_by_verdict : {E : Type 0} (network : NetworkOf) (node : Node) (number : ℕ) (in_force : Bool) (result : Result Bool E) → number < length network.limits →
    ((l : LimitOf) → slice_get network.limits number ≡ Some l → IsTrue in_force ↔ IsInForce l node.inside) → in_force ≡ true →
    IfOk result (λ refuted. (l : LimitOf) → slice_get network.limits number ≡ Some l → IsTrue refuted ↔ (verdict_of network node.upper l ≡ Refuted)) →
    IfOk result (λ refuted. IsTrue refuted ↔ IsNodeRefutedBy network node number)
refuted_by_verdict network node number in_force (Ok refuted) inside forced is exact = refuted_when network node number in_force refuted inside forced is exact
refuted_by_verdict network node number in_force (Err why) inside forced is exact = tt

-- a node of one plan that is refuted has a limit that refutes it
refuted_by : (network : NetworkOf) (node : Node) → node.inside ≡ node.upper → ((k : ℕ) → IsNodeRefutedBy network node k → ⊥) →
    IsRefutedPlan (verdict_of network) network node.inside → ⊥
refuted_by network node same none (k, limit, inside, here, (in_force, refuted)) =
    none k (record {
      limit = limit;
      named = slice_get_read network.limits (length network.limits) k limit refl inside (sym here);
      owned = in_force;
      refuted = subst (λ (plan : List Bool). verdict_of network plan limit ≡ Refuted) same refuted;
    })

-- a node of one plan that no limit refutes, and one isn't met on, is unsettled
pub unsettled_by : (network : NetworkOf) (node : Node) (number : ℕ) → IsNode network node → node.inside ≡ node.upper →
    ((k : ℕ) → IsNodeRefutedBy network node k → ⊥) → (IsMetAt network node.inside number → ⊥) → IsUnsettled network node.inside
unsettled_by network node number is same none unmet = record {
  long = is.inside_long;
  unsettled = (λ certified. unmet (met_at network node.inside number certified), refuted_by network node same none);
}

-- a verdict that is neither Refuted nor Open is Met
met_else : (verdict : Verdict) → (verdict ≡ Refuted → ⊥) → ((step : ℕ) (lo hi : ℤ) → verdict ≡ Open step lo hi → ⊥) → verdict ≡ Met
met_else Met refuted open_here = refl
met_else Refuted refuted open_here = absurd (refuted refl)
met_else (Open step lo hi) refuted open_here = absurd (open_here step lo hi refl)

-- some limit of an unsettled plan is open
pub some_open : (network : NetworkOf) (plan : List Bool) → IsUnsettled network plan →
    ((k : ℕ) → k < length network.limits → (step : ℕ) (lo hi : ℤ) → IsOpenLimit network plan k step lo hi → ⊥) → ⊥
some_open network plan unsettled closed =
    unsettled.unsettled.0 (λ k d inside in_force.
    let named : slice_get network.limits k ≡ Some (get_or network.limits k d) = slice_get-get_or network.limits k d inside in
    met_else (verdict_of network plan (get_or network.limits k d))
    (λ refuted. unsettled.unsettled.1 (k, get_or network.limits k d, inside, get_or_from_slice_get network.limits k (get_or network.limits k d) (get_or network.limits k d) named, (in_force, refuted)))
    (λ step lo hi is. closed k inside step lo hi (record { limit = get_or network.limits k d; named = named; in_force = in_force; open_here = is })))

-- a limit that is open, where none before it is, is the first open one
pub first_open_by : (network : NetworkOf) (plan : List Bool) (number step : ℕ) (lo hi : ℤ) → IsOpenLimit network plan number step lo hi →
    ((k : ℕ) → k < number → (s : ℕ) (a b : ℤ) → IsOpenLimit network plan k s a b → ⊥) → IsFirstOpen network plan number step lo hi
first_open_by network plan number step lo hi is none =
    let interval = open_interval network plan is.limit step lo hi is.open_here in
    record {
      here = is;
      first = λ k earlier below named in_force s a b here. none k below s a b (record { limit = earlier; named = named; in_force = in_force; open_here = here });
      low = interval.0;
      high = interval.1;
    }
