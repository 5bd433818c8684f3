-- The entries of an unknown's square: one where it is among the unknowns, and none elsewhere.
use Rattle.std.proofs.Common.{◌≡◌, ◌≢◌, ◌∙◌, ◌+◌, ◌^◌, ℕ, zero, suc, ℤ, pos, ◌+ℤ◌, Bool, true, List, [], ◌∷◌, Option, Some, None, refl, sym, ap, arith, slice_get}
use Rattle.std.specs.Prelude.{◌↔◌, if◌then◌else◌}
use Rattle.std.specs.List.{filter}
use Rattle.std.proofs.lemmas.Option.{none-some}
use Rattle.geo_model.specs.declared.network.Unknown.{Unknown}
use Rattle.design_rows.specs.Equations.{term}
use Rattle.design_rows.specs.Rows.{coefficient_at, entries_of, is_entry}
use Rattle.design_rows.specs.Unknowns.{is_same}
use Rattle.design_rows.proofs.PlaceFacts.{same-refl}
use Rattle.net_build.specs.Build.{square_on}
use Rattle.net_build.proofs.SquareFacts.{coefficient-other, numbered}

-- the coefficient of the unknown itself
coefficient-same : (u v : Unknown) → v ≡ u → coefficient_at (term (pos 1) u.component u.point ∷ []) v ≡ pos 1
unfolding coefficient_at
coefficient-same u v e =
    let same : is_same v u ≡ true = rw e (same-refl u) in
    ap (λ (t : Bool). (if t then pos 1 else pos 0) +ℤ pos 0) same

-- an unknown that is none of the others has no entry
entries-none : (n : ℕ) (unknowns : List Unknown) (u : Unknown) → ((k : ℕ) → slice_get unknowns k ≢ Some u) → filter is_entry (numbered n unknowns u) ≡ []
entries-none n [] u away = refl
entries-none n (v ∷ unknowns) u away =
    let none = coefficient-other u v (λ e. away zero (ap Some e)) in
    rw none (entries-none (n + 1) unknowns u (λ k. away (suc k)))

-- and one that is once among them has one entry
entries-some : (n : ℕ) (unknowns : List Unknown) (u : Unknown) (k : ℕ) → slice_get unknowns k ≡ Some u → ((j : ℕ) → slice_get unknowns j ≡ Some u → j ≡ k)
    → filter is_entry (numbered n unknowns u) ≡ (n + k, pos 1) ∷ []
entries-some n [] u k at only = cc at
entries-some n (v ∷ unknowns) u zero at only =
    let here = coefficient-same u v (let same : v ≡ u = cc at in same) in
    let rest = entries-none (n + 1) unknowns u (λ j e. let f : suc j ≡ zero = only (suc j) e in absurd (omega arith)) in
    let number : n ≡ n + 0 = omega arith in
    rw (here, rest) (ap (λ (m : ℕ). (m, pos 1) ∷ []) number)
entries-some n (v ∷ unknowns) u (suc k) at only =
    let none = coefficient-other u v (λ e. let f : zero ≡ suc k = only zero (ap Some e) in absurd (omega arith)) in
    let number : n + 1 + k ≡ n + suc k = omega arith in
    rw none (entries-some (n + 1) unknowns u k at (λ j e. let f : suc j ≡ suc k = only (suc j) e in omega arith) ∙ ap (λ (m : ℕ). (m, pos 1) ∷ []) number)

-- the square of an unknown, by what was found of its number
pub square-some : (unknowns : List Unknown) (u : Unknown) (k : ℕ) (found : Option ℕ) (entries : List (ℕ × ℤ)) → ((j : ℕ) → (found ≡ Some j) ↔ (slice_get unknowns j ≡ Some u))
    → found ≡ Some k → entries ≡ (k, pos 1) ∷ [] → record { beta = pos (10 ^ 14); entries = entries } ≡ square_on unknowns u
unfolding square_on entries_of
square-some unknowns u k found entries where_is is e =
    let all = entries-some 0 unknowns u k ((where_is k).0 is) (λ j at. let same : Some j ≡ Some k = sym ((where_is j).1 at) ∙ is in cc) in
    let number : 0 + k ≡ k = omega arith in
    ap (λ (l : List (ℕ × ℤ)). record { beta = pos (10 ^ 14); entries = l }) (e ∙ sym (all ∙ ap (λ (m : ℕ). (m, pos 1) ∷ []) number))

pub square-none : (unknowns : List Unknown) (u : Unknown) (found : Option ℕ) (entries : List (ℕ × ℤ)) → ((j : ℕ) → (found ≡ Some j) ↔ (slice_get unknowns j ≡ Some u))
    → found ≡ None → entries ≡ [] → record { beta = pos (10 ^ 14); entries = entries } ≡ square_on unknowns u
unfolding square_on entries_of
square-none unknowns u found entries where_is is e =
    let none = entries-none 0 unknowns u (λ k at. absurd (none-some k (sym is ∙ (where_is k).1 at))) in
    ap (λ (l : List (ℕ × ℤ)). record { beta = pos (10 ^ 14); entries = l }) (e ∙ sym none)
