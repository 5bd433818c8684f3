-- The form of a row as the sum of the terms of its equation.
use Rattle.std.proofs.Common.{◌≡◌, ◌≢◌, ◌∙◌, ◌+◌, ℕ, zero, suc, ℤ, pos, ◌+ℤ◌, ◌*ℤ◌, Bool, true, false, cond, not, List, [], ◌∷◌, map, Some, refl, sym, ap, ap₂, arith, slice_get}
use Rattle.std.specs.Prelude.{if◌then◌else◌}
use Rattle.std.specs.List.{AllByRecursion, IsDistinct, enumerate_from, filter}
use Rattle.std.specs.Ordering.{int_eq}
use Rattle.std.proofs.lemmas.Bool.Decides.{Decides-int_eq}
use Rattle.whole_algebra.specs.Sums.{int_sum_by}
use Rattle.whole_algebra.proofs.Ring.{add_mul, add_zero, mul_zero, zero_add, zero_mul}
use Rattle.whole_algebra.proofs.SumLaws.{int_sum_by-add, int_sum_by-same, int_sum_by-scale}
use Rattle.geo_model.specs.declared.network.Unknown.{Unknown}
use Rattle.geo_model.specs.Row.{Displaced, form_at}
use Rattle.design_rows.specs.Equations.{Equation}
use Rattle.design_rows.specs.Rows.{coefficient_at, entries_of, is_entry}
use Rattle.design_rows.specs.Unknowns.{is_same}
use Rattle.design_rows.proofs.EntryFacts.{at_term, coefficient-more, coefficient-none}
use Rattle.design_rows.proofs.PlaceFacts.{same-is, same-refl}
use Rattle.gen_law.specs.RowSums.{moved, terms_at}

-- by how much one numbered unknown moves the wanted one
at_column : Displaced → Unknown → ℕ × Unknown → ℤ
at_column x wanted column = if is_same column.1 wanted then x column.0 else pos 0

moved_from : ℕ → List Unknown → Displaced → Unknown → ℤ
moved_from n unknowns x wanted = int_sum_by (at_column x wanted) (enumerate_from n unknowns)

moved-is : (unknowns : List Unknown) (x : Displaced) (wanted : Unknown) → moved unknowns x wanted ≡ moved_from 0 unknowns x wanted
unfolding moved moved_from at_column
moved-is unknowns x wanted = refl

-- ---- the entries

-- the entries of numbered unknowns
entries_by : List (ℕ × Unknown) → Equation → List (ℕ × ℤ)
entries_by columns equation = filter is_entry (map (λ column. (column.0, coefficient_at equation.terms column.1)) columns)

entries-by : (unknowns : List Unknown) (equation : Equation) → entries_of unknowns equation.terms ≡ entries_by (enumerate_from 0 unknowns) equation
unfolding entries_of entries_by
entries-by unknowns equation = refl

columns_sum : (columns : List (ℕ × Unknown)) (equation : Equation) (x : Displaced)
    → form_at (entries_by columns equation) x ≡ int_sum_by (λ column. coefficient_at equation.terms column.1 *ℤ x column.0) columns
unfolding entries_by
columns_sum [] equation x = refl
columns_sum (column ∷ columns) equation x = by (int_eq here (pos 0)) refl (columns_sum columns equation x)
  where
    here : ℤ
    here = coefficient_at equation.terms column.1

    rest : ℤ
    rest = int_sum_by (λ (column : ℕ × Unknown). coefficient_at equation.terms column.1 *ℤ x column.0) columns

    by : (t : Bool) → int_eq here (pos 0) ≡ t → form_at (entries_by columns equation) x ≡ rest
        → form_at (cond (not t) ((column.0, here) ∷ entries_by columns equation) (entries_by columns equation)) x ≡ here *ℤ x column.0 +ℤ rest
    by true e same =
        let none : here ≡ pos 0 = (Decides-int_eq here (pos 0)).0 e in
        same ∙ sym (ap (λ (z : ℤ). z *ℤ x column.0 +ℤ rest) none ∙ ap (λ (z : ℤ). z +ℤ rest) (zero_mul (x column.0)) ∙ zero_add rest)
    by false e same = ap (λ (z : ℤ). here *ℤ x column.0 +ℤ z) same

-- ---- the terms

term_column : (t : _) (x : Displaced) (column : ℕ × Unknown) → at_term t column.1 *ℤ x column.0 ≡ t.coefficient *ℤ at_column x t.unknown column
unfolding at_term at_column
term_column t x column = by (is_same column.1 t.unknown)
  where
    by : (b : Bool) → (if b then t.coefficient else pos 0) *ℤ x column.0 ≡ t.coefficient *ℤ (if b then x column.0 else pos 0)
    by true = refl
    by false = zero_mul (x column.0) ∙ sym (mul_zero t.coefficient)

zeros : (columns : List (ℕ × Unknown)) → int_sum_by (λ (column : ℕ × Unknown). pos 0) columns ≡ pos 0
zeros [] = refl
zeros (column ∷ columns) = ap (λ (z : ℤ). pos 0 +ℤ z) (zeros columns)

by_terms : (columns : List (ℕ × Unknown)) (terms : _) (x : Displaced)
    → int_sum_by (λ column. coefficient_at terms column.1 *ℤ x column.0) columns
    ≡ int_sum_by (λ term. term.coefficient *ℤ int_sum_by (at_column x term.unknown) columns) terms
by_terms columns [] x =
    int_sum_by-same (λ (column : ℕ × Unknown). coefficient_at [] column.1 *ℤ x column.0) (λ (column : ℕ × Unknown). pos 0) columns
    (λ (column : ℕ × Unknown). ap (λ (z : ℤ). z *ℤ x column.0) (coefficient-none column.1) ∙ zero_mul (x column.0))
    ∙ zeros columns
by_terms columns (t ∷ terms) x =
    int_sum_by-same (λ (column : ℕ × Unknown). coefficient_at (t ∷ terms) column.1 *ℤ x column.0)
    (λ (column : ℕ × Unknown). at_term t column.1 *ℤ x column.0 +ℤ coefficient_at terms column.1 *ℤ x column.0) columns
    (λ (column : ℕ × Unknown). ap (λ (z : ℤ). z *ℤ x column.0) (coefficient-more t terms column.1) ∙ add_mul (at_term t column.1) (coefficient_at terms column.1) (x column.0))
    ∙ int_sum_by-add (λ (column : ℕ × Unknown). at_term t column.1 *ℤ x column.0) (λ (column : ℕ × Unknown). coefficient_at terms column.1 *ℤ x column.0) columns
    ∙ ap₂ (λ (s r : ℤ). s +ℤ r)
    (int_sum_by-same (λ (column : ℕ × Unknown). at_term t column.1 *ℤ x column.0) (λ (column : ℕ × Unknown). t.coefficient *ℤ at_column x t.unknown column) columns (term_column t x)
    ∙ int_sum_by-scale t.coefficient (at_column x t.unknown) columns)
    (by_terms columns terms x)

pub rows_are_sums : (unknowns : List Unknown) (equation : Equation) (x : Displaced) → form_at (entries_of unknowns equation.terms) x ≡ terms_at unknowns equation x
unfolding moved_from
rows_are_sums unknowns equation x =
    ap (λ (entries : List (ℕ × ℤ)). form_at entries x) (entries-by unknowns equation)
    ∙ columns_sum (enumerate_from 0 unknowns) equation x
    ∙ by_terms (enumerate_from 0 unknowns) equation.terms x
    ∙ int_sum_by-same (λ term. term.coefficient *ℤ moved_from 0 unknowns x term.unknown) (λ term. term.coefficient *ℤ moved unknowns x term.unknown) equation.terms
    (λ term. ap (λ (z : ℤ). term.coefficient *ℤ z) (sym (moved-is unknowns x term.unknown)))

-- ---- what moves

column-no : (x : Displaced) (n : ℕ) (v u : Unknown) → v ≢ u → at_column x u (n, v) ≡ pos 0
unfolding at_column
column-no x n v u other = by (is_same v u) refl
  where
    by : (t : Bool) → is_same v u ≡ t → (if t then x n else pos 0) ≡ pos 0
    by true e = absurd (other (same-is v u e))
    by false e = refl

column-yes : (x : Displaced) (n : ℕ) (u : Unknown) → at_column x u (n, u) ≡ x n
unfolding at_column
column-yes x n u = rw (same-refl u) refl

absent_from : (n : ℕ) (unknowns : List Unknown) (x : Displaced) (u : Unknown) → ((k : ℕ) → slice_get unknowns k ≢ Some u) → moved_from n unknowns x u ≡ pos 0
unfolding moved_from
absent_from n [] x u away = refl
absent_from n (v ∷ unknowns) x u away =
    ap₂ (λ (s r : ℤ). s +ℤ r) (column-no x n v u (λ e. away zero (ap Some e))) (absent_from (n + 1) unknowns x u (λ k. away (suc k)))

pub others_stay : (unknowns : List Unknown) (x : Displaced) (u : Unknown) → ((k : ℕ) → slice_get unknowns k ≢ Some u) → moved unknowns x u ≡ pos 0
others_stay unknowns x u away = moved-is unknowns x u ∙ absent_from 0 unknowns x u away

-- an unknown that differs from each of a list is at no place of it
away-from : (v : Unknown) (unknowns : List Unknown) → AllByRecursion (λ u. is_same v u ≡ false) unknowns → (k : ℕ) (u : Unknown) → slice_get unknowns k ≡ Some u → v ≢ u
away-from v [] differ k u at e = absurd (apart at)
  where
    apart : slice_get [] k ≡ Some u → ⊥
    apart at = cc at
away-from v (w ∷ unknowns) differ zero u at e = absurd (by w at differ.0)
  where
    by : (w : Unknown) → Some w ≡ Some u → is_same v w ≡ false → ⊥
    by w at other = let yes : is_same u u ≡ true = same-refl u in let same : w ≡ u = cc at in cc (other, yes, e, same)
away-from v (w ∷ unknowns) differ (suc k) u at e = away-from v unknowns differ.1 k u at e

at_from : (n : ℕ) (unknowns : List Unknown) (x : Displaced) (k : ℕ) (u : Unknown) → IsDistinct is_same unknowns → slice_get unknowns k ≡ Some u → moved_from n unknowns x u ≡ x (n + k)
unfolding moved_from IsDistinct
at_from n [] x k u differ at = absurd (apart at)
  where
    apart : slice_get [] k ≡ Some u → ⊥
    apart at = cc at
at_from n (v ∷ unknowns) x zero u differ at = by v at differ.0
  where
    by : (v : Unknown) → Some v ≡ Some u → AllByRecursion (λ w. is_same v w ≡ false) unknowns
        → at_column x u (n, v) +ℤ int_sum_by (at_column x u) (enumerate_from (n + 1) unknowns) ≡ x (n + 0)
    by v at others =
        let same : v ≡ u = cc at in
        ap₂ (λ (s r : ℤ). s +ℤ r) (ap (λ w. at_column x u (n, w)) same ∙ column-yes x n u)
        (absent_from (n + 1) unknowns x u (λ k there. away-from v unknowns others k u there same))
        ∙ add_zero (x n) ∙ ap x (omega arith)
at_from n (v ∷ unknowns) x (suc k) u differ at =
    ap₂ (λ (s r : ℤ). s +ℤ r) (column-no x n v u (away-from v unknowns differ.0 k u at)) (at_from (n + 1) unknowns x k u differ.1 at)
    ∙ zero_add (x ((n + 1) + k)) ∙ ap x (omega arith)

pub unknowns_move : (unknowns : List Unknown) (x : Displaced) (k : ℕ) (u : Unknown) → IsDistinct is_same unknowns → slice_get unknowns k ≡ Some u → moved unknowns x u ≡ x k
unknowns_move unknowns x k u differ at = moved-is unknowns x u ∙ at_from 0 unknowns x k u differ at ∙ ap x (omega arith)
