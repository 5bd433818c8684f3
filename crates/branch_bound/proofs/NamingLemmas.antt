-- The names of a search's cuts.
use Rattle.std.proofs.Common.{◌≡◌, ◌<◌, ◌≤◌, inl, inr, eqb, ltb, ◌&&◌, ℕ, pos, Bool, true, List, [], ◌∷◌, ◌++◌, All, length, get_or, arith, sym, ap, ◌∙◌, subst, Some}
use Rattle.std.specs.Prelude.{slice_get}
use Rattle.std.proofs.lemmas.Bool.{cases_lt, eqb-true, lt-ltb, ne_eqb}
use Rattle.std.proofs.lemmas.List.{ext_get_or, length-map}
use Rattle.std.proofs.lemmas.List.Elements.{All-map, All-nil, All-push}
use Rattle.std.proofs.lemmas.List.Folds.{Any-from_list_any}
use Rattle.std.proofs.lemmas.Map.Keys.{IsDistinct-from_apart}
use Rattle.std.proofs.lemmas.Map.Steps.{length-le_from_distinct_below}
use Rattle.std.proofs.lemmas.Option.{get_or_from_slice_get, slice_get-get_or, slice_get_within}
use Rattle.geo_model.specs.Network.{NetworkOf}
use Rattle.cut_pool.specs.Cut.{CutOf}
use Rattle.cut_pool.specs.Pool.{IsPool, IsSameCut}
use Rattle.bound_log.specs.CutText.{CutTextOf, displaced_by, text_of_cut}
use Rattle.bound_log.specs.DualText.{text_or_none}
use Rattle.bound_log.specs.Meanings.{is_cut_in_range}
use Rattle.bound_log.specs.Rules.{is_displacement}
use Rattle.bound_log.proofs.MoveLemmas.{displaced-moves, moves_displace}
use Rattle.bound_log.proofs.SoundLemmas.{at_place}
use Rattle.branch_bound.specs.Cuts.{SearchCuts, ArePoolFor, AreCutsFor, IsCutFor, named_cuts}
use Rattle.branch_bound.specs.Naming.{IsNaming, AreNamesOnce, AreOnce, text_at}
use Rattle.branch_bound.proofs.PlaceLemmas.{get_either, get_inside, get_map}

-- ---- numbers

-- numbers below a bound, none twice, are no more than the bound
once_few : (bound : ℕ) (numbers : List ℕ) → All (λ number. number < bound) numbers →
    ((one other number : ℕ) → slice_get numbers one ≡ Some number → slice_get numbers other ≡ Some number → one ≡ other) → length numbers ≤ bound
once_few bound numbers below once =
    length-le_from_distinct_below numbers bound
    (IsDistinct-from_apart eqb numbers (λ i j d less inside.
    ne_eqb (get_or numbers i d) (get_or numbers j d) (λ same.
    let place : i ≡ j = once i j (get_or numbers j d) (slice_get-get_or numbers i d (omega (arith, less, inside)) ∙ ap Some same) (slice_get-get_or numbers j d inside) in
    omega (arith, place, less))))
    (λ q is.
    let found = Any-from_list_any (eqb q) numbers is in
    let here : q ≡ found.1 = eqb-true q found.1 found.4 in
    subst (λ n. n < bound) (sym here) (subst (λ n. n < bound) found.3 (below found.0 found.1 found.2)))

-- there are no more names than cuts
pub naming_few : (pool : List CutOf) (numbers : List ℕ) → IsNaming pool numbers → length numbers ≤ length pool
naming_few pool numbers naming = once_few (length pool) numbers naming.within naming.once

-- a cut without a name is named
pub naming_more : (pool : List CutOf) (numbers now : List ℕ) (number : ℕ) → IsNaming pool numbers → number < length pool →
    ((name : ℕ) → slice_get numbers name ≡ Some number → ⊥) → now ≡ numbers ++ number ∷ [] → IsNaming pool now
naming_more pool numbers now number naming inside absent grown = subst (λ (ns : List ℕ). IsNaming pool ns) (sym grown) (record {
  within = All-push (λ k. k < length pool) numbers number naming.within inside;
  once = λ one other found here there.
      elim (get_either numbers number one found here) [
        | inl first ↦ elim (get_either numbers number other found there) [
          | inl second ↦ naming.once one other found first second
          | inr last ↦ absurd (absent one (first ∙ ap Some (sym last.1)))
        ]
        | inr first ↦ elim (get_either numbers number other found there) [
          | inl second ↦ absurd (absent other (second ∙ ap Some (sym first.1)))
          | inr last ↦ first.0 ∙ sym last.0
        ]
      ];
})

-- ---- texts

-- cuts whose displacements have as many entries, and which a line spells alike, are the same
text_same : (a b : CutOf) → length a.x ≡ length b.x → text_of_cut a ≡ text_of_cut b → IsSameCut a b
text_same a b long same = (
  ap (λ (t : CutTextOf). t.limit) same,
  ext_get_or (pos 0) a.x b.x long (λ i inside. sym (displaced-moves a.x i) ∙ ap (λ (t : CutTextOf). displaced_by t.pairs i) same ∙ displaced-moves b.x i),
)

-- in a pool without two same cuts, numbers with the same text are one
text_apart : (network : NetworkOf) (pool : List CutOf) (i j : ℕ) → ArePoolFor network pool → IsPool pool → i < j → j < length pool → text_at pool i ≡ text_at pool j → ⊥
text_apart network pool i j all is less inside same =
    let first = get_inside pool i (omega (arith, less, inside)) in
    let second = get_inside pool j inside in
    let one : IsCutFor network first.0 = at_place (IsCutFor network) pool i first.0 all first.1 in
    let two : IsCutFor network second.0 = at_place (IsCutFor network) pool j second.0 all second.1 in
    let texts : text_of_cut first.0 ≡ text_of_cut second.0 = sym (ap text_or_none first.1) ∙ same ∙ ap text_or_none second.1 in
    let found : IsSameCut (get_or pool i first.0) (get_or pool j first.0) =
    subst (λ (c : CutOf). IsSameCut c (get_or pool j first.0)) (sym (get_or_from_slice_get pool i first.0 first.0 first.1))
    (subst (λ (c : CutOf). IsSameCut first.0 c) (sym (get_or_from_slice_get pool j second.0 first.0 second.1))
    (text_same first.0 second.0 (one.places ∙ sym two.places) texts)) in
    is.distinct i j first.0 less inside found

text_once : (network : NetworkOf) (pool : List CutOf) (i j : ℕ) → ArePoolFor network pool → IsPool pool → i < length pool → j < length pool → text_at pool i ≡ text_at pool j → i ≡ j
text_once network pool i j all is first second same =
    elim (cases_lt i j) [
      | inl less ↦ absurd (text_apart network pool i j all is less second same)
      | inr le ↦ elim (cases_lt j i) [
        | inl more ↦ absurd (text_apart network pool j i all is more first (sym same))
        | inr same_place ↦ omega (arith, le, same_place)
      ]
    ]

-- the texts of cuts that are named once are named once
texts_once : (network : NetworkOf) (cuts : SearchCuts) → AreCutsFor network cuts → AreOnce (named_cuts cuts)
texts_once network cuts for one other cut here there =
    let first = get_map (text_at cuts.pool) cuts.names one cut here in
    let second = get_map (text_at cuts.pool) cuts.names other cut there in
    let inside : first.0 < length cuts.pool = at_place (λ k. k < length cuts.pool) cuts.names one first.0 for.naming.within first.1 in
    let beside : second.0 < length cuts.pool = at_place (λ k. k < length cuts.pool) cuts.names other second.0 for.naming.within second.1 in
    let number : first.0 ≡ second.0 = text_once network cuts.pool first.0 second.0 for.pool.each for.distinct inside beside (first.2 ∙ sym second.2) in
    for.naming.once one other second.0 (first.1 ∙ ap Some number) second.1

both : (a b : Bool) → a ≡ true → b ≡ true → (a && b) ≡ true
both a b one two = ap (λ x. x && b) one ∙ two

-- a cut of the pool has its numbers in their ranges
in_range : (network : NetworkOf) (pool : List CutOf) (number : ℕ) → ArePoolFor network pool → number < length pool → is_cut_in_range network (text_at pool number) ≡ true
in_range network pool number all inside =
    let found = get_inside pool number inside in
    let is : IsCutFor network found.0 = at_place (IsCutFor network) pool number found.0 all found.1 in
    ap (λ o. is_cut_in_range network (text_or_none o)) found.1
    ∙ both (ltb found.0.limit (length network.limits)) (is_displacement (length network.unknowns) (text_of_cut found.0).pairs)
    (lt-ltb found.0.limit (length network.limits) is.in_range) (moves_displace (length network.unknowns) found.0.x is.places is.narrow)

-- so a log may name them
pub names_once : (network : NetworkOf) (cuts : SearchCuts) → AreCutsFor network cuts → AreNamesOnce network (named_cuts cuts)
names_once network cuts for = record {
  names = record {
    few = omega (arith, length-map cuts.names (text_at cuts.pool), naming_few cuts.pool cuts.names for.naming, for.pool.few);
    each = All-map (λ (cut : CutTextOf). is_cut_in_range network cut ≡ true) (text_at cuts.pool) cuts.names
        (λ k d inside. in_range network cuts.pool (get_or cuts.names k d) for.pool.each (for.naming.within k d inside));
  };
  once = texts_once network cuts for;
}

-- a name is a small number
pub name_small : (network : NetworkOf) (cuts : SearchCuts) (name : ℕ) (cut : CutTextOf) → AreCutsFor network cuts → slice_get (named_cuts cuts) name ≡ Some cut → name < 65536
name_small network cuts name cut for is =
    omega (arith, slice_get_within (named_cuts cuts) name cut is, length-map cuts.names (text_at cuts.pool), naming_few cuts.pool cuts.names for.naming, for.pool.few)

-- no cut is named
pub no_names : (network : NetworkOf) → AreNamesOnce network []
no_names network = record {
  names = record { few = omega arith; each = All-nil (λ (cut : CutTextOf). is_cut_in_range network cut ≡ true) };
  once = λ one other cut here there. absurd (cc);
}

pub naming_none : (pool : List CutOf) (numbers : List ℕ) → numbers ≡ [] → IsNaming pool numbers
naming_none pool numbers none = subst (λ (ns : List ℕ). IsNaming pool ns) (sym none) (record {
  within = All-nil (λ number. number < length pool);
  once = λ one other number here there. absurd (cc);
})
