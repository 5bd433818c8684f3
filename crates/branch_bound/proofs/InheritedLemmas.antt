use Rattle.std.proofs.Common.{◌≡◌, ◌↔◌, ℕ, zero, suc, Bool, true, false, IsTrue, List, [], ◌∷◌, arith, refl, ap, sym, ◌∙◌, subst, Some, None, ◌⊎◌, inl, inr}
use Rattle.std.specs.Prelude.{slice_get, slice_set, Option}
use Rattle.std.specs.Option.{ForSome}
use Rattle.std.proofs.lemmas.Bool.{false≢true}
use Rattle.geo_model.specs.Limit.{LimitOf, IsInForce}
use Rattle.geo_model.specs.Network.{NetworkOf}
use Rattle.geo_model.specs.declared.plan.Node.{Node}
use Rattle.bound_log.specs.LogTree.{IsNodeRefutedBy, with_chosen, without_chosen}
use Rattle.branch_bound.specs.Inherited.{IsUnmetAt, IsInherited}
use Rattle.branch_bound.specs.declared.inherited.Inherited.{Inherited}

-- What a node inherits from its parent holds there.

-- what a plan with one more candidate chooses, it chose before, or it is that candidate
chosen_before : (plan : List Bool) (candidate i : ℕ) → slice_get (slice_set plan candidate true) i ≡ Some true →
    (i ≡ candidate) ⊎ (slice_get plan i ≡ Some true)
chosen_before [] candidate i is = inr is
chosen_before (x ∷ plan) zero zero is = inl refl
chosen_before (x ∷ plan) zero (suc i) is = inr is
chosen_before (x ∷ plan) (suc candidate) zero is = inr is
chosen_before (x ∷ plan) (suc candidate) (suc i) is = elim (chosen_before plan candidate i is) [
  | inl same ↦ inl (omega (arith, same))
  | inr before ↦ inr before
]

-- a limit in force for a plan with one more candidate was in force before, or is that candidate's own
in_force_before : (limit : LimitOf) (plan : List Bool) (candidate : ℕ) → IsInForce limit (slice_set plan candidate true) →
    IsInForce limit plan ⊎ (limit.owner ≡ Some candidate)
in_force_before limit plan candidate in_force = by_owner limit.owner in_force
  where
    by_owner : (owner : Option ℕ) → ForSome owner (λ o. slice_get (slice_set plan candidate true) o ≡ Some true) → ForSome owner (λ o. slice_get plan o ≡ Some true) ⊎ (owner ≡ Some candidate)
    by_owner None owned = inl (λ o e. absurd (cc))
    by_owner (Some o) owned = elim (chosen_before plan candidate o (owned o refl)) [
      | inl same ↦ inr (ap Some same)
      | inr before ↦ inl (λ other e. let alike : o ≡ other = cc in subst (λ (n : ℕ). slice_get plan n ≡ Some true) alike before)
    ]

-- a node that inherits nothing
pub IsInherited-nothing : (network : NetworkOf) (node : Node) → IsInherited network node (record { chosen = None; none_shut = false; unmet = None })
IsInherited-nothing network node = record { chosen = λ candidate e. absurd (cc); unmet = λ limit e. absurd (cc) }

-- the child that chooses a candidate: no limit refutes the parent
pub IsInherited-with : (network : NetworkOf) (node : Node) (candidate : ℕ) (none_shut : Bool) → ((k : ℕ) → IsNodeRefutedBy network node k → ⊥) →
    IsInherited network (with_chosen node candidate) (record { chosen = Some candidate; none_shut = none_shut; unmet = None })
IsInherited-with network node candidate none_shut unrefuted = record {
  chosen = λ chosen e k refuted limit named.
      let same : candidate ≡ chosen = cc in
      let alike : limit ≡ refuted.limit = cc in
      elim (in_force_before refuted.limit node.inside candidate refuted.owned) [
        | inl before ↦ absurd (unrefuted k (record { limit = refuted.limit; named = refuted.named; owned = before; refuted = refuted.refuted }))
        | inr own ↦ ap (λ l. l.owner) alike ∙ own ∙ ap Some same
      ];
  unmet = λ limit e. absurd (cc);
}

-- the child that leaves a candidate out has the parent's inner plan
pub IsInherited-without : (network : NetworkOf) (node : Node) (candidate : ℕ) (unmet : Option ℕ) →
    ForSome unmet (λ limit. IsUnmetAt network node.inside limit) →
    IsInherited network (without_chosen node candidate) (record { chosen = None; none_shut = false; unmet = unmet })
IsInherited-without network node candidate unmet holds = record { chosen = λ chosen e. absurd (cc); unmet = holds }

pub IsInherited-same : (network : NetworkOf) (node same_node : Node) (inherited : Inherited) → same_node ≡ node → IsInherited network node inherited →
    IsInherited network same_node inherited
IsInherited-same network node same_node inherited same is = subst (λ n. IsInherited network n inherited) (sym same) is

-- a limit that isn't the inherited candidate's own doesn't refute the node
pub refutes_not : (network : NetworkOf) (node : Node) (inherited : Inherited) (number candidate : ℕ) (owned : Bool) → IsInherited network node inherited →
    inherited.chosen ≡ Some candidate → ((l : LimitOf) → slice_get network.limits number ≡ Some l → IsTrue owned ↔ (l.owner ≡ Some candidate)) →
    owned ≡ false → IsTrue false ↔ IsNodeRefutedBy network node number
refutes_not network node inherited number candidate owned is chosen tests not = (
  λ yes. absurd (false≢true yes),
  λ refuted. absurd (false≢true (sym not ∙ (tests refuted.limit refuted.named).1 (is.chosen candidate chosen number refuted refuted.limit refuted.named))),
)
