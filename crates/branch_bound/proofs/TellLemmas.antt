-- What the places of a pool's cuts tell of their names.
use Rattle.std.proofs.Common.{eq-eqb, eqb, ◌≡◌, ◌↔◌, ◌<◌, ◌≤◌, arith, inl, inr, ℕ, List, [], ◌∷◌, ◌++◌, length, sym, ◌∙◌, ap, subst, Option, Some, None}
use Rattle.std.specs.Prelude.{slice_get, slice_set, IfNone, IfSome}
use Rattle.std.proofs.lemmas.Option.{slice_get_within}
use Rattle.std.proofs.lemmas.Bool.{cases_Bool, eqb-true, false≢true}
use Rattle.branch_bound.specs.Naming.{TellsNames}
use Rattle.branch_bound.proofs.PlaceLemmas.{get_either, get_front, get_next, same_some, set_elsewhere, set_here}

-- two lists of places tell the same names
abbrev pub TellSame : List (Option ℕ) → List (Option ℕ) → Type 0
TellSame now before = (k name : ℕ) → (slice_get now k ≡ Some (Some name)) ↔ (slice_get before k ≡ Some (Some name))

-- a further place tells no name
pub tell_same-more : (first before now : List (Option ℕ)) → TellSame before first → now ≡ before ++ None ∷ [] → TellSame now first
tell_same-more first before now same is = λ k name. (
  λ here. (same k name).0
      (elim (get_either before None k (Some name) (subst (λ (places : List (Option ℕ)). slice_get places k ≡ Some (Some name)) is here)) [
        | inl there ↦ there
        | inr last ↦ absurd (let none : None ≡ Some name = last.1 in cc)
      ]),
  λ there. subst (λ (places : List (Option ℕ)). slice_get places k ≡ Some (Some name)) (sym is) (get_front before (None ∷ []) k (Some name) ((same k name).1 there)),
)

pub tell_same-kept : (first before now : List (Option ℕ)) → TellSame before first → now ≡ before → TellSame now first
tell_same-kept first before now same is = subst (λ (places : List (Option ℕ)). TellSame places first) (sym is) same

pub tells-reached : (before now : List (Option ℕ)) (numbers : List ℕ) → TellSame now before → TellsNames before numbers → TellsNames now numbers
tells-reached before now numbers same tells = record {
  there = λ number name is. tells.there number name ((same number name).0 is);
  back = λ number name is. (same number name).1 (tells.back number name is);
}

-- a number is told the next name
told_there : (places : List (Option ℕ)) (numbers : List ℕ) (number other name : ℕ) → TellsNames places numbers → number < length places →
    slice_get (slice_set places number (Some (length numbers))) other ≡ Some (Some name) → slice_get (numbers ++ number ∷ []) name ≡ Some other
told_there places numbers number other name tells inside is =
    elim (cases_Bool (eqb other number)) [
      | inl same ↦
          let here : other ≡ number = eqb-true other number same in
          let told : Some (Some (length numbers)) ≡ Some (Some name) =
          sym (set_here places number (Some (length numbers)) inside) ∙ ap (slice_get (slice_set places number (Some (length numbers)))) (sym here) ∙ is in
          let last : length numbers ≡ name = same_some (length numbers) name (same_some (Some (length numbers)) (Some name) told) in
          ap (slice_get (numbers ++ number ∷ [])) (sym last) ∙ get_next numbers number ∙ ap Some (sym here)
      | inr apart ↦
          let others : other ≡ number → ⊥ = λ same. false≢true (sym apart ∙ eq-eqb other number same) in
          get_front numbers (number ∷ []) name other (tells.there other name (sym (set_elsewhere places number other (Some (length numbers)) others) ∙ is))
    ]

told_back : (places : List (Option ℕ)) (numbers : List ℕ) (number other name : ℕ) → TellsNames places numbers → number < length places →
    ((name : ℕ) → slice_get numbers name ≡ Some number → ⊥) → slice_get (numbers ++ number ∷ []) name ≡ Some other →
    slice_get (slice_set places number (Some (length numbers))) other ≡ Some (Some name)
told_back places numbers number other name tells inside absent is =
    elim (get_either numbers number name other is) [
      | inl before ↦
          set_elsewhere places number other (Some (length numbers)) (λ same. absent name (before ∙ ap Some same)) ∙ tells.back other name before
      | inr last ↦
          ap (slice_get (slice_set places number (Some (length numbers)))) (sym last.1) ∙ set_here places number (Some (length numbers)) inside ∙ ap (λ (n : ℕ). Some (Some n)) (sym last.0)
    ]

pub tells-more : (places : List (Option ℕ)) (numbers now : List ℕ) (number name : ℕ) → TellsNames places numbers → number < length places →
    ((name : ℕ) → slice_get numbers name ≡ Some number → ⊥) → name ≡ length numbers → now ≡ numbers ++ number ∷ [] →
    TellsNames (slice_set places number (Some name)) now
tells-more places numbers now number name tells inside absent is grown =
    subst (λ (n : ℕ). TellsNames (slice_set places number (Some n)) now) (sym is)
    (subst (λ (ns : List ℕ). TellsNames (slice_set places number (Some (length numbers))) ns) (sym grown) (record {
      there = λ other name is. told_there places numbers number other name tells inside is;
      back = λ other name is. told_back places numbers number other name tells inside absent is;
    }))

-- ---- the name of a cut

pub told_past : (places : List (Option ℕ)) (numbers : List ℕ) (number : ℕ) → TellsNames places numbers → length places ≤ number → (name : ℕ) → slice_get numbers name ≡ Some number → ⊥
told_past places numbers number tells past name is = omega (arith, past, slice_get_within places number (Some name) (tells.back number name is))

pub told_some : (places : List (Option ℕ)) (numbers : List ℕ) (number : ℕ) (found : Option ℕ) → TellsNames places numbers → slice_get places number ≡ Some found →
    IfSome found (λ name. slice_get numbers name ≡ Some number)
told_some places numbers number None tells is = tt
told_some places numbers number (Some name) tells is = tells.there number name is

pub told_none : (places : List (Option ℕ)) (numbers : List ℕ) (number : ℕ) (found : Option ℕ) → TellsNames places numbers → slice_get places number ≡ Some found →
    IfNone found ((name : ℕ) → slice_get numbers name ≡ Some number → ⊥)
told_none places numbers number None tells is = λ name here. let told = sym is ∙ tells.back number name here in absurd (cc)
told_none places numbers number (Some name) tells is = tt
