-- Followers, and the plans that they are brought to, place by place.
use Rattle.std.proofs.Common.{◌≡◌, ◌∙◌, ℕ, zero, suc, ◌+◌, ◌<◌, Bool, List, [], ◌∷◌, ◌++◌, Some, length, length-append, length-set, refl, sym, ap, subst, arith, inl, inr, slice_get, get_or, ◌⊎◌}
use Rattle.std.specs.Prelude.{slice_set}
use Rattle.std.proofs.lemmas.Bool.{cases_lt}
use Rattle.std.proofs.lemmas.Option.{slice_get_within, slice_get-get_or}
use Rattle.geo_model.specs.Network.{NetworkOf}
use Rattle.verdict_cli.specs.declared.follower.Follower.{Follower}
use Rattle.verdict_cli.specs.Followers.{IsFollower, AreFollowers}

pub same_some : {X : Type 0} (x y : X) → Some x ≡ Some y → x ≡ y
same_some x y e = cc

-- ---- a list that is written at one place
get-set_same : {X : Type 0} (xs : List X) (i : ℕ) (y : X) → i < length xs → slice_get (slice_set xs i y) i ≡ Some y
get-set_same [] i y lt = absurd (omega arith)
get-set_same (x ∷ xs) zero y lt = refl
get-set_same (x ∷ xs) (suc i) y lt = get-set_same xs i y (omega arith)

get-set_other : {X : Type 0} (xs : List X) (i j : ℕ) (y : X) → (j ≡ i → ⊥) → slice_get (slice_set xs i y) j ≡ slice_get xs j
get-set_other [] i j y apart = refl
get-set_other (x ∷ xs) zero zero y apart = absurd (apart refl)
get-set_other (x ∷ xs) zero (suc j) y apart = refl
get-set_other (x ∷ xs) (suc i) zero y apart = refl
get-set_other (x ∷ xs) (suc i) (suc j) y apart = get-set_other xs i j y (λ e. apart (ap (λ k. suc k) e))

-- ---- a list with one more element
get-pushed : {X : Type 0} (xs : List X) (y : X) → slice_get (xs ++ y ∷ []) (length xs) ≡ Some y
get-pushed [] y = refl
get-pushed (x ∷ xs) y = get-pushed xs y

get-before : {X : Type 0} (xs : List X) (y : X) (j : ℕ) → j < length xs → slice_get (xs ++ y ∷ []) j ≡ slice_get xs j
get-before [] y j lt = absurd (omega arith)
get-before (x ∷ xs) y zero lt = refl
get-before (x ∷ xs) y (suc j) lt = get-before xs y j (omega arith)

-- ---- a plan that is brought to another, one candidate more
pub brought_more : (plan new wanted : List Bool) (i : ℕ) (b : Bool) → i < length plan → new ≡ slice_set plan i b → slice_get wanted i ≡ Some b
    → ((j : ℕ) → j < i → slice_get plan j ≡ slice_get wanted j) → (j : ℕ) → j < i + 1 → slice_get new j ≡ slice_get wanted j
brought_more plan new wanted i b inside is there before j lt =
    ap (λ p. slice_get p j) is ∙ (elim (cases_lt j i) [
      | inl less ↦ get-set_other plan i j b (λ e. absurd (omega arith)) ∙ before j less
      | inr le ↦ (let here : j ≡ i = omega arith in
          ap (slice_get (slice_set plan i b)) here ∙ (get-set_same plan i b inside ∙ (sym there ∙ ap (slice_get wanted) (sym here))))
    ])

-- ---- followers
pub one_follower_more : (network : NetworkOf) (followers : List Follower) (count : ℕ) (follower : Follower) → AreFollowers network count followers → IsFollower network count follower
    → AreFollowers network (count + 1) (followers ++ follower ∷ [])
one_follower_more network followers count follower are is = record {
  places = length-append followers (follower ∷ []) ∙ (let places = are.places in omega arith);
  each = λ k found e. elim (cases_lt k (length followers)) [
    | inl less ↦ are.each k found (sym (get-before followers follower k less) ∙ e)
    | inr le ↦ last k found e (let inside = slice_get_within (followers ++ follower ∷ []) k found e in let long = length-append followers (follower ∷ []) in omega arith)
  ];
}
  where
    last : (k : ℕ) (found : Follower) → slice_get (followers ++ follower ∷ []) k ≡ Some found → k ≡ length followers → IsFollower network k found
    last k found e here =
        let same : follower ≡ found = same_some follower found (sym (get-pushed followers follower) ∙ (ap (slice_get (followers ++ follower ∷ [])) (sym here) ∙ e)) in
        let number : count ≡ k = (let places = are.places in omega arith) in
        subst (λ (f : Follower). IsFollower network k f) same (subst (λ j. IsFollower network j follower) number is)

pub follower_at : (network : NetworkOf) (followers : List Follower) (count k : ℕ) (d : Follower) → AreFollowers network count followers → k < length followers
    → IsFollower network k (get_or followers k d)
follower_at network followers count k d are inside = are.each k (get_or followers k d) (slice_get-get_or followers k d inside)

pub one_follower_written : (network : NetworkOf) (followers : List Follower) (count k : ℕ) (follower : Follower) → AreFollowers network count followers → k < length followers
    → IsFollower network k follower → AreFollowers network count (slice_set followers k follower)
one_follower_written network followers count k follower are inside is = record {
  places = length-set followers k follower ∙ are.places;
  each = λ j found e. elim (at_or_not j k) [
    | inl here ↦ (let same : follower ≡ found = same_some follower found (sym (get-set_same followers k follower inside) ∙ (ap (slice_get (slice_set followers k follower)) (sym here) ∙ e)) in
        subst (λ (f : Follower). IsFollower network j f) same (subst (λ i. IsFollower network i follower) (sym here) is))
    | inr apart ↦ are.each j found (sym (get-set_other followers k j follower apart) ∙ e)
  ];
}
  where
    at_or_not : (j k : ℕ) → (j ≡ k) ⊎ (j ≡ k → ⊥)
    at_or_not j k = elim (cases_lt j k) [
      | inl less ↦ inr (λ e. absurd (omega arith))
      | inr le ↦ elim (cases_lt k j) [
        | inl more ↦ inr (λ e. absurd (omega arith))
        | inr ge ↦ inl (omega arith)
      ]
    ]
