-- The square of an unknown: its bounds, and where it is 0.
use Rattle.std.proofs.Common.{◌≡◌, ◌≢◌, ◌∙◌, ◌+◌, ◌*◌, ◌^◌, ◌<◌, ◌≤◌, ℕ, zero, suc, ℤ, pos, negsuc, ◌+ℤ◌, ◌*ℤ◌, ◌≤ℤ◌, Bool, true, false, cond, not, List, [], ◌∷◌, Some, length, map, refl, sym, ap, subst, arith, eqb, eqb-true, lit≤, slice_get}
use Rattle.std.specs.Prelude.{All, unsigned_abs, if◌then◌else◌}
use Rattle.std.specs.List.{IsDistinct, enumerate_from, filter}
use Rattle.std.specs.Int.{int_max}
use Rattle.std.specs.Ordering.{int_eq}
use Rattle.std.proofs.lemmas.Bool.Decides.{Decides-int_eq}
use Rattle.std.proofs.lemmas.Int.{ints, clamps}
use Rattle.std.proofs.lemmas.List.Elements.{All-head, All-tail, All-weaker}
use Rattle.std.proofs.lemmas.List.Sums.{sum_by-cons, sum_by-le}
use Rattle.whole_algebra.proofs.Ring.{mul_zero}
use Rattle.geo_model.specs.declared.network.Unknown.{Unknown}
use Rattle.geo_model.specs.Row.{Displaced, Entries, IsSparse, form_at, total_size, unit_at}
use Rattle.geo_model.specs.Candidate.{CandidateOf}
use Rattle.geo_model.specs.Energy.{full_energy}
use Rattle.geo_model.specs.Limit.{SquareOf, IsLoad, load}
use Rattle.design_rows.specs.Equations.{term}
use Rattle.design_rows.specs.Rows.{coefficient_at, entries_of, is_entry}
use Rattle.design_rows.specs.Unknowns.{is_same}
use Rattle.design_rows.proofs.EntryFacts.{entries-all, entries-ascend, entries-sized}
use Rattle.design_rows.proofs.PlaceFacts.{same-is}
use Rattle.net_build.specs.Build.{square_on}

-- ---- where it is 0

-- the coefficient of each unknown, with those that are 0
abbrev pub numbered : ℕ → List Unknown → Unknown → List (ℕ × ℤ)
numbered n unknowns u = map (λ column. (column.0, coefficient_at (term (pos 1) u.component u.point ∷ []) column.1)) (enumerate_from n unknowns)

-- entries that are 0 add nothing
form-filtered : (entries : Entries) (x : Displaced) → form_at (filter is_entry entries) x ≡ form_at entries x
form-filtered [] x = refl
form-filtered (entry ∷ entries) x = by (int_eq entry.1 (pos 0)) refl (form-filtered entries x)
  where
    by : (t : Bool) → int_eq entry.1 (pos 0) ≡ t → form_at (filter is_entry entries) x ≡ form_at entries x
        → form_at (cond (not t) (entry ∷ filter is_entry entries) (filter is_entry entries)) x ≡ entry.1 *ℤ x entry.0 +ℤ form_at entries x
    by true e same =
        let none : entry.1 ≡ pos 0 = (Decides-int_eq entry.1 (pos 0)).0 e in
        let gone : entry.1 *ℤ x entry.0 ≡ pos 0 = ap (λ (z : ℤ). z *ℤ x entry.0) none ∙ zero-times (x entry.0) in
        same ∙ sym (ap (λ (z : ℤ). z +ℤ form_at entries x) gone ∙ zero-more (form_at entries x))
      where
        zero-times : (z : ℤ) → pos 0 *ℤ z ≡ pos 0
        zero-times z = omega (arith, ints)

        zero-more : (z : ℤ) → pos 0 +ℤ z ≡ z
        zero-more z = omega (arith, ints)
    by false e same = ap (λ (z : ℤ). entry.1 *ℤ x entry.0 +ℤ z) same

-- the coefficient of another unknown
pub coefficient-other : (u v : Unknown) → v ≢ u → coefficient_at (term (pos 1) u.component u.point ∷ []) v ≡ pos 0
unfolding coefficient_at
coefficient-other u v other = by (is_same v u) refl
  where
    by : (t : Bool) → is_same v u ≡ t → (if t then pos 1 else pos 0) +ℤ pos 0 ≡ pos 0
    by true e = absurd (other (same-is v u e))
    by false e = refl

part-none : (c : ℤ) (t : Bool) → (t ≡ true → c ≡ pos 0) → c *ℤ (if t then pos 1 else pos 0) ≡ pos 0
part-none c true none = ap (λ (z : ℤ). z *ℤ pos 1) (none refl)
part-none c false none = mul_zero c

form-numbered : (n i : ℕ) (unknowns : List Unknown) (u : Unknown) → ((k : ℕ) → n + k ≡ i → slice_get unknowns k ≢ Some u)
    → form_at (numbered n unknowns u) (unit_at i) ≡ pos 0
form-numbered n i [] u away = refl
form-numbered n i (v ∷ unknowns) u away =
    let rest = form-numbered (n + 1) i unknowns u (λ k e. away (suc k) (omega arith)) in
    let here = part-none (coefficient_at (term (pos 1) u.component u.point ∷ []) v) (eqb n i)
    (λ same. let at : n ≡ i = eqb-true n i same in coefficient-other u v (λ e. away zero (omega arith) (ap Some e))) in
    rw (here, rest) refl

-- the square of an unknown is 0 at a displacement by 1 in another one
pub form-elsewhere : (unknowns : List Unknown) (u : Unknown) (i : ℕ) → slice_get unknowns i ≢ Some u → form_at (square_on unknowns u).entries (unit_at i) ≡ pos 0
unfolding square_on entries_of
form-elsewhere unknowns u i away =
    form-filtered (numbered 0 unknowns u) (unit_at i)
    ∙ form-numbered 0 i unknowns u (λ k e at. let same : k ≡ i = omega arith in away (subst (λ (j : ℕ). slice_get unknowns j ≡ Some u) same at))

-- ---- its bounds

-- a square that is 10 ^ 14 times at most one displacement
pub record IsUnit (n : ℕ) (square : SquareOf) : Type 0 where
  pub beta : square.beta ≡ pos (10 ^ 14)
  pub sparse : IsSparse square.entries
  pub columns : All (λ entry. entry.0 < n) square.entries
  pub total : total_size square.entries ≤ 1

pub square-unit : (unknowns : List Unknown) (u : Unknown) → IsDistinct is_same unknowns → IsUnit (length unknowns) (square_on unknowns u)
unfolding square_on
square-unit unknowns u apart = record {
  beta = refl;
  sparse = record {
    ascending = entries-ascend unknowns (term (pos 1) u.component u.point ∷ []);
    nonzero = entries-all (λ entry. entry.1 ≢ pos 0) unknowns (term (pos 1) u.component u.point ∷ []) (λ entry of. of.nonzero);
  };
  columns = entries-all (λ entry. entry.0 < length unknowns) unknowns (term (pos 1) u.component u.point ∷ []) (λ entry of. of.below);
  total = entries-sized (term (pos 1) u.component u.point ∷ []) unknowns apart;
}

add-size : (c : ℤ) (t : Bool) (f : ℤ) (s all : ℕ) → unsigned_abs f ≤ s → all ≡ unsigned_abs c + s → unsigned_abs (c *ℤ (if t then pos 1 else pos 0) +ℤ f) ≤ all
add-size c true f s all h e = let one : c *ℤ pos 1 ≡ c = omega (arith, ints) in rw one (omega (arith, ints))
add-size c false f s all h e = let none : c *ℤ pos 0 ≡ pos 0 = mul_zero c in rw none (omega (arith, ints))

-- a form at a displacement by 1 is at most the sizes of its coefficients
form-size : (entries : Entries) (i : ℕ) → unsigned_abs (form_at entries (unit_at i)) ≤ total_size entries
form-size [] i = omega arith
form-size (entry ∷ entries) i =
    add-size entry.1 (eqb entry.0 i) (form_at entries (unit_at i)) (total_size entries) (total_size (entry ∷ entries)) (form-size entries i)
    (sum_by-cons (λ (e : ℕ × ℤ). unsigned_abs e.1) entry entries)

small-square : (f : ℤ) → unsigned_abs f ≤ 1 → (f *ℤ f) ≤ℤ pos 1
small-square (pos zero) h = omega (arith, ints)
small-square (pos (suc zero)) h = omega (arith, ints)
small-square (pos (suc (suc n))) h = absurd (omega arith)
small-square (negsuc zero) h = omega (arith, ints)
small-square (negsuc (suc n)) h = absurd (omega arith)

one-more : (q l : ℤ) (m : ℕ) → q ≤ℤ pos 1 → l ≤ℤ pos (m * 10 ^ 14) → (pos (10 ^ 14) *ℤ q +ℤ l) ≤ℤ pos (suc m * 10 ^ 14)
one-more q l m h k = omega (arith, ints)

load-small : (n i : ℕ) (squares : List SquareOf) → All (IsUnit n) squares → load squares (unit_at i) ≤ℤ pos (length squares * 10 ^ 14)
load-small n i [] all = omega (arith, ints)
load-small n i (square ∷ squares) all =
    let is = All-head (IsUnit n) square squares all in
    let f = form_at square.entries (unit_at i) in
    let one = small-square f (omega (arith, form-size square.entries i, is.total)) in
    let rest = load-small n i squares (All-tail (IsUnit n) square squares all) in
    subst (λ (b : ℤ). (b *ℤ (f *ℤ f) +ℤ load squares (unit_at i)) ≤ℤ pos (suc (length squares) * 10 ^ 14)) (sym is.beta)
    (one-more (f *ℤ f) (load squares (unit_at i)) (length squares) one rest)

times-small : (t : ℕ) → t ≤ 1 → 10 ^ 14 * t ^ 2 ≤ 10 ^ 14
times-small zero h = lit≤ tt
times-small (suc zero) h = lit≤ tt
times-small (suc (suc t)) h = absurd (omega arith)

unit-total : (n : ℕ) (square : SquareOf) → IsUnit n square → unsigned_abs square.beta * total_size square.entries ^ 2 ≤ 10 ^ 14
unit-total n square is =
    subst (λ (b : ℤ). unsigned_abs b * total_size square.entries ^ 2 ≤ 10 ^ 14) (sym is.beta) (times-small (total_size square.entries) is.total)

below-max : (l x : ℤ) (m : ℕ) → l ≤ℤ pos (m * 10 ^ 14) → m ≤ 2 → l ≤ℤ int_max (pos (2 ^ 50)) x
below-max l x m h k = omega (arith, ints, clamps)

-- at most two such squares are the load of a limit
pub unit-load : (n : ℕ) (candidates : List CandidateOf) (alpha : ℤ) (squares : List SquareOf) → pos 1 ≤ℤ alpha → alpha ≤ℤ pos 1000000
    → length squares ≤ 2 → All (IsUnit n) squares → IsLoad n candidates alpha squares
unit-load n candidates alpha squares low high few all =
    let sum = sum_by-le (λ square. unsigned_abs square.beta * total_size square.entries ^ 2) (10 ^ 14) squares
    (All-weaker (IsUnit n) (λ square. unsigned_abs square.beta * total_size square.entries ^ 2 ≤ 10 ^ 14) (unit-total n) squares all) in
    record {
      alpha_low = low;
      alpha_high = high;
      beta_low = All-weaker (IsUnit n) (λ square. pos 1 ≤ℤ square.beta) (λ square is. let e = is.beta in omega (arith, ints)) squares all;
      beta_high = All-weaker (IsUnit n) (λ square. square.beta ≤ℤ pos (10 ^ 14)) (λ square is. let e = is.beta in omega (arith, ints)) squares all;
      sparse = All-weaker (IsUnit n) (λ square. IsSparse square.entries) (λ square is. is.sparse) squares all;
      columns = All-weaker (IsUnit n) (λ square. All (λ entry. entry.0 < n) square.entries) (λ square is. is.columns) squares all;
      total = omega (arith, sum, few);
      diagonal = λ i inside. below-max (load squares (unit_at i)) (pos (2 ^ 12) *ℤ (alpha *ℤ full_energy candidates (unit_at i))) (length squares) (load-small n i squares all) few;
    }
