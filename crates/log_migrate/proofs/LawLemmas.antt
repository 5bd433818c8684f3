-- Each cut that is used is named, and none is named twice.
use Rattle.std.proofs.Common.{◌≡◌, ◌≤◌, List, [], ◌∷◌, ◌++◌, Contains, length, arith, refl, ap, sym, ◌∙◌, subst, inl, inr, append-nil}
use Rattle.std.specs.Prelude.{false, ◌||◌}
use Rattle.std.specs.Cmp.{IsEquivalence}
use Rattle.std.specs.List.{IsDistinct, list_any}
use Rattle.std.proofs.lemmas.Bool.{cases_Bool}
use Rattle.std.proofs.lemmas.Bool.Decides.{Decides-like, same_from_decides}
use Rattle.std.proofs.lemmas.List.Elements.{All-contains, All-contains_itself, Contains-get_or}
use Rattle.std.proofs.lemmas.Map.Keys.{IsDistinct-push}
use Rattle.std.proofs.lemmas.Option.{get_or_from_slice_get}
use Rattle.bound_log.specs.CutText.{CutTextOf}
use Rattle.log_migrate.specs.FirstUse.{first_used, is_same_cut, number_among}
use Rattle.log_migrate.proofs.NumberLemmas.{number_first, number_later, number_of_cut, same_cut, same_self}
use Rattle.log_migrate.proofs.FirstUseLemmas.{Either, IsKnown, known, known_or_new, new, shifted, used_are_known, used_each, used_known, used_new}

-- ---- which cuts are named

pub needed_used : (used : List CutTextOf) (cut : CutTextOf) → Contains (first_used [] used) cut → Contains used cut
needed_used used cut needed = All-contains (Contains used) (first_used [] used) cut (used_each (Contains used) [] used (All-contains_itself used)) needed

known_contained : (named : List CutTextOf) (cut : CutTextOf) → IsKnown named cut → Contains named cut
known_contained named cut is =
    subst (Contains named) (get_or_from_slice_get named (number_among named cut) cut cut (number_of_cut named cut is)) (Contains-get_or named (number_among named cut) cut is)

pub used_needed : (used : List CutTextOf) (cut : CutTextOf) → Contains used cut → Contains (first_used [] used) cut
used_needed used cut uses = known_contained (first_used [] used) cut (All-contains (IsKnown (first_used [] used)) used cut (used_are_known [] used) uses)

-- ---- none is named twice

same_equivalence : IsEquivalence is_same_cut
same_equivalence = record {
  refl = same_self;
  symm = λ x y. same_from_decides (is_same_cut x y) (is_same_cut y x) (same_cut x y) (Decides-like (is_same_cut y x) (λ e. sym e) (λ e. sym e) (same_cut y x));
  congr = λ x y z same. ap (λ (c : CutTextOf). is_same_cut c z) ((same_cut x y).0 same);
}

none_same : (named : List CutTextOf) (cut : CutTextOf) → length named ≤ number_among named cut → list_any (is_same_cut cut) named ≡ false
none_same [] cut is = refl
none_same (first ∷ named) cut is = elim (cases_Bool (is_same_cut cut first)) [
  | inl same ↦ absurd (omega (arith, is, number_first first named cut same))
  | inr differs ↦ ap (λ b. b || list_any (is_same_cut cut) named) differs ∙ none_same named cut (omega (arith, is, number_later first named cut differs))
]

distinct_on : (named used : List CutTextOf) → IsDistinct is_same_cut named → IsDistinct is_same_cut (named ++ first_used named used)
distinct_on named [] apart = subst (IsDistinct is_same_cut) (sym (append-nil named)) apart
distinct_on named (cut ∷ used) apart = by (known_or_new named cut) (distinct_on named used apart) (distinct_on (named ++ cut ∷ []) used)
  where
    by : Either named cut → IsDistinct is_same_cut (named ++ first_used named used)
        → (IsDistinct is_same_cut (named ++ cut ∷ []) → IsDistinct is_same_cut ((named ++ cut ∷ []) ++ first_used (named ++ cut ∷ []) used))
        → IsDistinct is_same_cut (named ++ first_used named (cut ∷ used))
    by (known is) same later = subst (λ (f : List CutTextOf). IsDistinct is_same_cut (named ++ f)) (sym (used_known named used cut is)) same
    by (new is) same later =
        let more = IsDistinct-push same_equivalence named cut apart (none_same named cut is) in
        subst (λ (f : List CutTextOf). IsDistinct is_same_cut (named ++ f)) (sym (used_new named used cut is))
        (subst (IsDistinct is_same_cut) (shifted named (first_used (named ++ cut ∷ []) used) cut) (later more))

none_distinct : IsDistinct is_same_cut []
unfolding IsDistinct
none_distinct = tt

pub needed_distinct : (used : List CutTextOf) → IsDistinct is_same_cut (first_used [] used)
needed_distinct used = distinct_on [] used none_distinct
