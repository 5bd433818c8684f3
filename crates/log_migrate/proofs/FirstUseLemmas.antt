-- The cuts that are used for the first time.
use Rattle.std.proofs.Common.{◌≡◌, ◌<◌, ◌≤◌, ltb, List, [], ◌∷◌, ◌++◌, All, length, arith, refl, ap, sym, ◌∙◌, subst, inl, inr, append-nil, append_assoc, length-append}
use Rattle.std.proofs.lemmas.Bool.{cases_Bool, le-ltb, lt-ltb, ltb-true, ltb-false}
use Rattle.std.proofs.lemmas.List.Elements.{All-nil, All-cons, All-head, All-tail}
use Rattle.bound_log.specs.CutText.{CutTextOf}
use Rattle.log_migrate.specs.FirstUse.{first_used, number_among}
use Rattle.log_migrate.proofs.NumberLemmas.{number_given, number_kept, number_most}

-- a cut is named
abbrev pub IsKnown : List CutTextOf → CutTextOf → Type 0
IsKnown named cut = number_among named cut < length named

pub data Either (named : List CutTextOf) (cut : CutTextOf) : Type 0 where
  known : IsKnown named cut → Either named cut
  new : length named ≤ number_among named cut → Either named cut

pub known_or_new : (named : List CutTextOf) (cut : CutTextOf) → Either named cut
known_or_new named cut = elim (cases_Bool (ltb (number_among named cut) (length named))) [
  | inl is ↦ known (ltb-true (number_among named cut) (length named) is)
  | inr not ↦ new (ltb-false (number_among named cut) (length named) not)
]

pub used_known : (named used : List CutTextOf) (cut : CutTextOf) → IsKnown named cut → first_used named (cut ∷ used) ≡ first_used named used
used_known named used cut is = rw (lt-ltb (number_among named cut) (length named) is) refl

pub used_new : (named used : List CutTextOf) (cut : CutTextOf) → length named ≤ number_among named cut → first_used named (cut ∷ used) ≡ cut ∷ first_used (named ++ cut ∷ []) used
used_new named used cut is = rw (le-ltb (number_among named cut) (length named) is) refl

-- one cut after others
pub shifted : (named more : List CutTextOf) (cut : CutTextOf) → (named ++ cut ∷ []) ++ more ≡ named ++ cut ∷ more
shifted named more cut = append_assoc named (cut ∷ []) more

-- cuts that are used after others
pub used_append : (named xs ys : List CutTextOf) → first_used named (xs ++ ys) ≡ first_used named xs ++ first_used (named ++ first_used named xs) ys
used_append named [] ys = ap (λ (n : List CutTextOf). first_used n ys) (sym (append-nil named))
used_append named (cut ∷ xs) ys = by (known_or_new named cut) (used_append named xs ys) (used_append (named ++ cut ∷ []) xs ys)
  where
    by : Either named cut → first_used named (xs ++ ys) ≡ first_used named xs ++ first_used (named ++ first_used named xs) ys
        → first_used (named ++ cut ∷ []) (xs ++ ys) ≡ first_used (named ++ cut ∷ []) xs ++ first_used ((named ++ cut ∷ []) ++ first_used (named ++ cut ∷ []) xs) ys
        → first_used named (cut ∷ (xs ++ ys)) ≡ first_used named (cut ∷ xs) ++ first_used (named ++ first_used named (cut ∷ xs)) ys
    by (known is) same later =
        used_known named (xs ++ ys) cut is ∙ same
        ∙ ap (λ (f : List CutTextOf). f ++ first_used (named ++ f) ys) (sym (used_known named xs cut is))
    by (new is) same later =
        let after = named ++ cut ∷ [] in
        used_new named (xs ++ ys) cut is
        ∙ ap (λ (f : List CutTextOf). cut ∷ f) later
        ∙ ap (λ (n : List CutTextOf). cut ∷ (first_used after xs ++ first_used n ys)) (shifted named (first_used after xs) cut)
        ∙ ap (λ (f : List CutTextOf). f ++ first_used (named ++ f) ys) (sym (used_new named xs cut is))

-- what holds of cuts that are used holds of those that are used for the first time
pub used_each : (P : CutTextOf → Type 0) (named used : List CutTextOf) → All P used → All P (first_used named used)
used_each P named [] each = All-nil P
used_each P named (cut ∷ used) each = by (known_or_new named cut) (used_each P named used (All-tail P cut used each)) (used_each P (named ++ cut ∷ []) used (All-tail P cut used each))
  where
    by : Either named cut → All P (first_used named used) → All P (first_used (named ++ cut ∷ []) used) → All P (first_used named (cut ∷ used))
    by (known is) same later = subst (All P) (sym (used_known named used cut is)) same
    by (new is) same later =
        subst (All P) (sym (used_new named used cut is))
        (All-cons P cut (first_used (named ++ cut ∷ []) used) (All-head P cut used each) later)

pub known_kept : (named more : List CutTextOf) (cut : CutTextOf) → IsKnown named cut → IsKnown (named ++ more) cut
known_kept named more cut is = omega (arith, is, number_kept named more cut is, length-append named more)

-- a cut that is named here has a number
pub known_given : (named more : List CutTextOf) (cut : CutTextOf) → length named ≤ number_among named cut → IsKnown (named ++ cut ∷ more) cut
known_given named more cut is = omega (arith, number_given named more cut is, length-append named (cut ∷ more))

-- after the names of the cuts that are used for the first time each cut that is used is named
pub used_are_known : (named used : List CutTextOf) → All (IsKnown (named ++ first_used named used)) used
used_are_known named [] = All-nil (IsKnown (named ++ []))
used_are_known named (cut ∷ used) = by (known_or_new named cut) (used_are_known named used) (used_are_known (named ++ cut ∷ []) used)
  where
    by : Either named cut → All (IsKnown (named ++ first_used named used)) used → All (IsKnown ((named ++ cut ∷ []) ++ first_used (named ++ cut ∷ []) used)) used → All (IsKnown (named ++ first_used named (cut ∷ used))) (cut ∷ used)
    by (known is) same later =
        subst (λ (f : List CutTextOf). All (IsKnown (named ++ f)) (cut ∷ used)) (sym (used_known named used cut is))
        (All-cons (IsKnown (named ++ first_used named used)) cut used (known_kept named (first_used named used) cut is) same)
    by (new is) same later =
        let rest = first_used (named ++ cut ∷ []) used in
        subst (λ (f : List CutTextOf). All (IsKnown (named ++ f)) (cut ∷ used)) (sym (used_new named used cut is))
        (All-cons (IsKnown (named ++ cut ∷ rest)) cut used (known_given named rest cut is)
        (subst (λ (n : List CutTextOf). All (IsKnown n) used) (shifted named rest cut) later))

-- one cut that is used: its number where it is named, and the number that it then gets
pub number_one : (named : List CutTextOf) (cut : CutTextOf) → number_among (named ++ first_used named (cut ∷ [])) cut ≡ number_among named cut
number_one named cut = by (known_or_new named cut)
  where
    by : Either named cut → number_among (named ++ first_used named (cut ∷ [])) cut ≡ number_among named cut
    by (known is) = number_kept named (first_used named (cut ∷ [])) cut is
    by (new is) = ap (λ (f : List CutTextOf). number_among (named ++ f) cut) (used_new named [] cut is) ∙ number_given named [] cut is ∙ sym (most named cut is)
      where
        most : (n : List CutTextOf) (c : CutTextOf) → length n ≤ number_among n c → number_among n c ≡ length n
        most n c more = omega (arith, more, number_most n c)
