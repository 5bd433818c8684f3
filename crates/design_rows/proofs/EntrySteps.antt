-- The coefficient of an unknown by one more term, and the entries of a row by one more unknown.
use Rattle.std.proofs.Common.{◌≡◌, ◌∙◌, ◌+◌, ◌<◌, ◌≤◌, ◌^◌, ℕ, ℤ, pos, ◌+ℤ◌, true, false, List, [], ◌∷◌, ◌++◌, length, take, get_or, map, refl, sym, ap, arith, FitsSigned, w64}
use Rattle.std.specs.Prelude.{if◌then◌else◌, unsigned_abs}
use Rattle.std.specs.List.{enumerate_from, filter}
use Rattle.std.proofs.lemmas.Int.{ints, fits_signed_from_abs}
use Rattle.std.proofs.lemmas.List.{map-append, take_more, length-take-le}
use Rattle.std.proofs.lemmas.List.Elements.{filter-append}
use Rattle.std.proofs.lemmas.List.Sums.{get_or-le-sum_by, sum_by-cons, sum_by-take-le}
use Rattle.whole_algebra.proofs.Order.{size-add}
use Rattle.whole_algebra.proofs.Ring.{add_zero}
use Rattle.whole_algebra.proofs.SumLaws.{int_sum_by-append}
use Rattle.geo_model.specs.declared.network.Unknown.{Unknown}
use Rattle.design_rows.specs.declared.term.Term.{Term}
use Rattle.design_rows.specs.Bounds.{total_of}
use Rattle.design_rows.specs.Rows.{coefficient_at, entries_of, is_entry}
use Rattle.design_rows.specs.Unknowns.{is_same}
use Rattle.design_rows.proofs.EntryFacts.{at_term, at_term-no, at_term-yes, bool-cases, coefficient-more, coefficient-none}
use Rattle.design_rows.proofs.NumberingFacts.{enumerate-push}

-- ---- the coefficient of an unknown

at_term-size : (term : Term) (u : Unknown) → unsigned_abs (at_term term u) ≤ unsigned_abs term.coefficient
at_term-size term u = bool-cases _ (is_same u term.unknown) (λ here. rw (at_term-yes term u here) (omega arith)) (λ there. rw (at_term-no term u there) (omega arith))

coefficient-total : (terms : List Term) (u : Unknown) → unsigned_abs (coefficient_at terms u) ≤ total_of terms
coefficient-total [] u = rw (coefficient-none u) (omega arith)
coefficient-total (term ∷ terms) u =
    let first = at_term-size term u in
    let rest = coefficient-total terms u in
    let parts = sum_by-cons (λ (t : Term). unsigned_abs t.coefficient) term terms in
    let both = size-add (at_term term u) (coefficient_at terms u) in
    rw (coefficient-more term terms u) (omega (arith, first, rest, parts, both))

coefficient-push : (terms : List Term) (term : Term) (u : Unknown) → coefficient_at (terms ++ term ∷ []) u ≡ coefficient_at terms u +ℤ at_term term u
unfolding coefficient_at at_term
coefficient-push terms term u =
    int_sum_by-append (λ (t : Term). if is_same u t.unknown then t.coefficient else pos 0) terms (term ∷ [])
    ∙ ap (λ (z : ℤ). coefficient_at terms u +ℤ z) (add_zero (if is_same u term.unknown then term.coefficient else pos 0))

module _ (terms : List Term) (u : Unknown) (q : ℕ) (d : Term) (inside : q < length terms) where
  one-more : coefficient_at (take (q + 1) terms) u ≡ coefficient_at (take q terms) u +ℤ at_term (get_or terms q d) u
  one-more = ap (λ (ts : List Term). coefficient_at ts u) (take_more terms q d inside) ∙ coefficient-push (take q terms) (get_or terms q d) u

  pub coefficient-here : is_same u (get_or terms q d).unknown ≡ true → coefficient_at (take (q + 1) terms) u ≡ coefficient_at (take q terms) u +ℤ (get_or terms q d).coefficient
  coefficient-here here = one-more ∙ ap (λ (z : ℤ). coefficient_at (take q terms) u +ℤ z) (at_term-yes (get_or terms q d) u here)

  pub coefficient-elsewhere : is_same u (get_or terms q d).unknown ≡ false → coefficient_at (take (q + 1) terms) u ≡ coefficient_at (take q terms) u
  coefficient-elsewhere there = one-more ∙ rw (at_term-no (get_or terms q d) u there) (add_zero (coefficient_at (take q terms) u))

pub record IsStep (so_far part : ℤ) : Type 0 where
  pub size : FitsSigned w64 part
  pub sum : FitsSigned w64 (so_far +ℤ part)

small-sum : (a b : ℤ) → unsigned_abs a < 2 ^ 23 → unsigned_abs b < 2 ^ 23 → unsigned_abs (a +ℤ b) < 2 ^ 63
small-sum a b first second = omega (arith, ints)

pub step : (sum : ℤ) (terms : List Term) (u : Unknown) (q : ℕ) (d : Term) → sum ≡ coefficient_at (take q terms) u → total_of terms < 2 ^ 23 → q < length terms
    → IsStep sum (get_or terms q d).coefficient
step sum terms u q d is total inside =
    let so_far = coefficient-total (take q terms) u in
    let front = sum_by-take-le (λ (t : Term). unsigned_abs t.coefficient) terms q in
    let one = get_or-le-sum_by (λ (t : Term). unsigned_abs t.coefficient) terms q d inside in
    let mine : unsigned_abs sum < 2 ^ 23 = rw is (omega (arith, so_far, front)) in
    let part : unsigned_abs (get_or terms q d).coefficient < 2 ^ 23 = omega (arith, one) in
    let wide : unsigned_abs (get_or terms q d).coefficient < 2 ^ 63 = omega arith in
    record {
      size = fits_signed_from_abs w64 (get_or terms q d).coefficient wide;
      sum = fits_signed_from_abs w64 (sum +ℤ (get_or terms q d).coefficient) (small-sum sum (get_or terms q d).coefficient mine part);
    }

-- ---- the entries of a row

pub entries-none : (terms : List Term) → [] ≡ entries_of [] terms
unfolding entries_of
entries-none terms = refl

pub entries-push : (unknowns : List Unknown) (u : Unknown) (terms : List Term)
    → entries_of (unknowns ++ u ∷ []) terms
    ≡ entries_of unknowns terms ++ (if is_entry (length unknowns, coefficient_at terms u) then (length unknowns, coefficient_at terms u) ∷ [] else [])
unfolding entries_of
entries-push unknowns u terms =
    ap (λ xs. filter is_entry (map column xs)) (enumerate-push 0 unknowns u ∙ ap (λ (k : ℕ). enumerate_from 0 unknowns ++ (k, u) ∷ []) (omega arith))
    ∙ ap (filter is_entry) (map-append column (enumerate_from 0 unknowns) ((length unknowns, u) ∷ []))
    ∙ filter-append is_entry (map column (enumerate_from 0 unknowns)) ((length unknowns, coefficient_at terms u) ∷ [])
  where
    column : ℕ × Unknown → ℕ × ℤ
    column (k, v) = (k, coefficient_at terms v)

pub entries-more : (unknowns : List Unknown) (terms : List Term) (q : ℕ) (d : Unknown) (size : ℤ) (before after : List (ℕ × ℤ)) → q < length unknowns
    → size ≡ coefficient_at terms (get_or unknowns q d) → before ≡ entries_of (take q unknowns) terms → after ≡ before ++ (if is_entry (q, size) then (q, size) ∷ [] else [])
    → after ≡ entries_of (take (q + 1) unknowns) terms
entries-more unknowns terms q d size before after inside value is next =
    let u = get_or unknowns q d in
    let long : length (take q unknowns) ≡ q = length-take-le q unknowns (omega arith) in
    next
    ∙ ap (λ (es : List (ℕ × ℤ)). es ++ (if is_entry (q, size) then (q, size) ∷ [] else [])) is
    ∙ ap (λ (z : ℤ). entries_of (take q unknowns) terms ++ (if is_entry (q, z) then (q, z) ∷ [] else [])) value
    ∙ ap (λ (k : ℕ). entries_of (take q unknowns) terms ++ (if is_entry (k, coefficient_at terms u) then (k, coefficient_at terms u) ∷ [] else [])) (sym long)
    ∙ sym (entries-push (take q unknowns) u terms)
    ∙ ap (λ (us : List Unknown). entries_of us terms) (sym (take_more unknowns q d inside))
