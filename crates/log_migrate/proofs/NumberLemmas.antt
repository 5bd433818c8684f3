-- Cuts are told apart by their numbers.
use Rattle.std.proofs.Common.{◌≡◌, ℕ, suc, ◌<◌, ◌≤◌, true, false, List, [], ◌∷◌, ◌++◌, length, Some, slice_get, arith, refl, ap, sym, ◌∙◌, inl, inr}
use Rattle.std.specs.Bool.{Decides}
use Rattle.std.specs.Prelude.{ℤ}
use Rattle.std.proofs.lemmas.Bool.{cases_Bool}
use Rattle.std.proofs.lemmas.Bool.Decides.{Decides-and, Decides-eqb, Decides-int_eq, Decides-like}
use Rattle.std.proofs.lemmas.Slice.Eq.{slice_eq-Decides}
use Rattle.std.specs.Cmp.Lexicographic.{pointwise}
use Rattle.bound_log.specs.CutText.{CutTextOf}
use Rattle.log_migrate.specs.FirstUse.{is_same_cut, is_same_pair, number_among}

-- ---- which cuts are the same

same_pair : (a b : ℕ × ℤ) → Decides (is_same_pair a b) (a ≡ b)
same_pair a b =
    Decides-like (is_same_pair a b) (λ both j. (both.0 j, both.1 j)) (λ same. (ap (λ p. p.0) same, ap (λ p. p.1) same))
    (Decides-and _ _ (Decides-eqb a.0 b.0) (Decides-int_eq a.1 b.1))

pub same_cut : (a b : CutTextOf) → Decides (is_same_cut a b) (a ≡ b)
same_cut a b =
    Decides-like (is_same_cut a b) (λ both j. record { limit = both.0 j; pairs = both.1 j }) (λ same. (ap (λ (c : CutTextOf). c.limit) same, ap (λ (c : CutTextOf). c.pairs) same))
    (Decides-and _ _ (Decides-eqb a.limit b.limit) (slice_eq-Decides same_pair a.pairs b.pairs (pointwise is_same_pair a.pairs b.pairs) refl))

pub same_self : (cut : CutTextOf) → is_same_cut cut cut ≡ true
same_self cut = (same_cut cut cut).1 refl

-- ---- numbers

pub number_first : (first : CutTextOf) (named : List CutTextOf) (cut : CutTextOf) → is_same_cut cut first ≡ true → number_among (first ∷ named) cut ≡ 0
number_first first named cut same = rw same refl

pub number_later : (first : CutTextOf) (named : List CutTextOf) (cut : CutTextOf) → is_same_cut cut first ≡ false → number_among (first ∷ named) cut ≡ suc (number_among named cut)
number_later first named cut differs = rw differs (omega arith)

-- a number is that of a cut, or how many there are
pub number_most : (named : List CutTextOf) (cut : CutTextOf) → number_among named cut ≤ length named
number_most [] cut = omega arith
number_most (first ∷ named) cut = elim (cases_Bool (is_same_cut cut first)) [
  | inl same ↦ omega (arith, number_first first named cut same)
  | inr differs ↦ omega (arith, number_later first named cut differs, number_most named cut)
]

-- the cut of a number
pub number_of_cut : (named : List CutTextOf) (cut : CutTextOf) → number_among named cut < length named → slice_get named (number_among named cut) ≡ Some cut
number_of_cut [] cut within = absurd (omega (arith, within))
number_of_cut (first ∷ named) cut within = elim (cases_Bool (is_same_cut cut first)) [
  | inl same ↦ ap (slice_get (first ∷ named)) (number_first first named cut same) ∙ ap Some (sym ((same_cut cut first).0 same))
  | inr differs ↦
      let later = number_later first named cut differs in
      ap (slice_get (first ∷ named)) later ∙ number_of_cut named cut (omega (arith, within, later))
]

-- a cut keeps its number where more are named
pub number_kept : (named more : List CutTextOf) (cut : CutTextOf) → number_among named cut < length named → number_among (named ++ more) cut ≡ number_among named cut
number_kept [] more cut within = absurd (omega (arith, within))
number_kept (first ∷ named) more cut within = elim (cases_Bool (is_same_cut cut first)) [
  | inl same ↦ number_first first (named ++ more) cut same ∙ sym (number_first first named cut same)
  | inr differs ↦
      let later = number_later first named cut differs in
      number_later first (named ++ more) cut differs ∙ ap suc (number_kept named more cut (omega (arith, within, later))) ∙ sym later
]

-- a further cut that is named gets the number that it has before
pub number_given : (named more : List CutTextOf) (cut : CutTextOf) → length named ≤ number_among named cut → number_among (named ++ cut ∷ more) cut ≡ length named
number_given [] more cut none = number_first cut more cut (same_self cut)
number_given (first ∷ named) more cut none = elim (cases_Bool (is_same_cut cut first)) [
  | inl same ↦ absurd (omega (arith, none, number_first first named cut same))
  | inr differs ↦
      let later = number_later first named cut differs in
      number_later first (named ++ cut ∷ more) cut differs ∙ ap suc (number_given named more cut (omega (arith, none, later)))
]
