-- The entries of a row: their columns ascend, none is 0, and there are no more of them, nor are they larger, than the terms.
use Rattle.std.proofs.Common.{◌≡◌, ◌≢◌, ◌∙◌, ◌+◌, ◌<◌, ◌≤◌, ℕ, zero, suc, ℤ, pos, Bool, true, false, List, [], ◌∷◌, length, map, refl, sym, ap, arith, cond}
use Rattle.std.specs.Prelude.{◌+ℤ◌, All, AllPairs, if◌then◌else◌, not, sum_by, unsigned_abs}
use Rattle.std.specs.List.{AllByRecursion, IsDistinct, enumerate_from, filter}
use Rattle.std.specs.Ordering.{int_eq}
use Rattle.std.proofs.lemmas.Bool.Decides.{Decides-int_eq}
use Rattle.std.proofs.lemmas.Int.{ints}
use Rattle.std.proofs.lemmas.List.Elements.{All-nil, All-cons}
use Rattle.std.proofs.lemmas.List.Sums.{sum_by-cons, sum_by-le-sum_by}
use Rattle.whole_algebra.proofs.Order.{size-add}
use Rattle.geo_model.specs.declared.network.Unknown.{Unknown}
use Rattle.design_rows.specs.declared.term.Term.{Term}
use Rattle.design_rows.specs.Rows.{coefficient_at, entries_of, is_entry}
use Rattle.design_rows.specs.Unknowns.{is_same}
use Rattle.design_rows.proofs.PlaceFacts.{same-is, same-refl}
use Rattle.design_rows.proofs.UnknownFacts.{every-weaker}

-- ---- lists

pub all-of : {A : Type 0} (P : A → Type 0) (xs : List A) → AllByRecursion P xs → All P xs
all-of P [] a = All-nil P
all-of P (x ∷ xs) a = All-cons P x xs a.0 (all-of P xs a.1)

-- each element comes before each later one
Ordered : List (ℕ × ℤ) → Type 0
Ordered [] = Unit {0}
Ordered (entry ∷ entries) = AllByRecursion (λ later. entry.0 < later.0) entries × Ordered entries

pairs-of : (entries : List (ℕ × ℤ)) → Ordered entries → AllPairs (λ (entry : ℕ × ℤ) (later : ℕ × ℤ). entry.0 < later.0) entries
unfolding Ordered
pairs-of [] o i j d less within = absurd (omega arith)
pairs-of (entry ∷ entries) o zero zero d less within = absurd (omega arith)
pairs-of (entry ∷ entries) o zero (suc j) d less within = all-of (λ later. entry.0 < later.0) entries o.0 j d (omega arith)
pairs-of (entry ∷ entries) o (suc i) zero d less within = absurd (omega arith)
pairs-of (entry ∷ entries) o (suc i) (suc j) d less within = pairs-of entries o.1 i j d (omega arith) (omega arith)

-- ---- the entries from a number on

pub entries_from : ℕ → List Unknown → List Term → List (ℕ × ℤ)
entries_from n unknowns terms = filter is_entry (map (λ column. (column.0, coefficient_at terms column.1)) (enumerate_from n unknowns))

pub entries-are : (unknowns : List Unknown) (terms : List Term) → entries_of unknowns terms ≡ entries_from 0 unknowns terms
unfolding entries_of entries_from
entries-are unknowns terms = refl

-- the entry of one unknown
kept : ℕ → ℤ → List (ℕ × ℤ) → List (ℕ × ℤ)
kept n z rest = cond (not (int_eq z (pos 0))) ((n, z) ∷ rest) rest

entries-more : (n : ℕ) (u : Unknown) (unknowns : List Unknown) (terms : List Term)
    → entries_from n (u ∷ unknowns) terms ≡ kept n (coefficient_at terms u) (entries_from (n + 1) unknowns terms)
unfolding entries_from kept
entries-more n u unknowns terms = refl

entries-end : (n : ℕ) (terms : List Term) → entries_from n [] terms ≡ []
unfolding entries_from
entries-end n terms = refl

-- an entry is there or its coefficient is 0
kept-cases : (P : List (ℕ × ℤ) → Type 0) (n : ℕ) (z : ℤ) (rest : List (ℕ × ℤ)) → (z ≢ pos 0 → P ((n, z) ∷ rest)) → (z ≡ pos 0 → P rest) → P (kept n z rest)
unfolding kept
kept-cases P n z rest there gone = by (int_eq z (pos 0)) refl
  where
    by : (t : Bool) → int_eq z (pos 0) ≡ t → P (cond (not t) ((n, z) ∷ rest) rest)
    by true e = gone ((Decides-int_eq z (pos 0)).0 e)
    by false e = there (λ f. cc (e, (Decides-int_eq z (pos 0)).1 f))

-- an entry's column and coefficient
pub record IsEntryOf (terms : List Term) (low high : ℕ) (entry : ℕ × ℤ) : Type 0 where
  pub above : low ≤ entry.0
  pub below : entry.0 < high
  pub nonzero : entry.1 ≢ pos 0
  pub unknown : Unknown
  pub is : entry.1 ≡ coefficient_at terms unknown

entries-each : (low high n : ℕ) (unknowns : List Unknown) (terms : List Term) → low ≤ n → n + length unknowns ≤ high
    → AllByRecursion (IsEntryOf terms low high) (entries_from n unknowns terms)
entries-each low high n [] terms least most = rw (entries-end n terms) tt
entries-each low high n (u ∷ unknowns) terms least most =
    let rest = entries-each low high (n + 1) unknowns terms (omega arith) (omega arith) in
    rw (entries-more n u unknowns terms) (kept-cases (AllByRecursion (IsEntryOf terms low high)) n (coefficient_at terms u) (entries_from (n + 1) unknowns terms)
    (λ other. (record { above = least; below = omega arith; nonzero = other; unknown = u; is = refl }, rest))
    (λ none. rest))

entries-ordered : (n : ℕ) (unknowns : List Unknown) (terms : List Term) → Ordered (entries_from n unknowns terms)
unfolding Ordered
entries-ordered n [] terms = rw (entries-end n terms) tt
entries-ordered n (u ∷ unknowns) terms =
    let rest = entries_from (n + 1) unknowns terms in
    let later = entries-each (n + 1) (n + 1 + length unknowns) (n + 1) unknowns terms (omega arith) (omega arith) in
    rw (entries-more n u unknowns terms) (kept-cases Ordered n (coefficient_at terms u) rest
    (λ other. (every-weaker (IsEntryOf terms (n + 1) (n + 1 + length unknowns)) (λ entry. n < entry.0) (λ entry is. let above = is.above in omega arith) rest later, entries-ordered (n + 1) unknowns terms))
    (λ none. entries-ordered (n + 1) unknowns terms))

-- ---- a measure of coefficients that is 0 at 0 and of a sum is at most the sum

pub record IsMeasure (h : ℤ → ℕ) : Type 0 where
  pub none : h (pos 0) ≡ 0
  pub sum : (a b : ℤ) → h (a +ℤ b) ≤ h a + h b

entries-measured : (h : ℤ → ℕ) → IsMeasure h → (n : ℕ) (unknowns : List Unknown) (terms : List Term)
    → sum_by (λ entry. h entry.1) (entries_from n unknowns terms) ≡ sum_by (λ u. h (coefficient_at terms u)) unknowns
entries-measured h measure n [] terms = rw (entries-end n terms) refl
entries-measured h measure n (u ∷ unknowns) terms =
    let rest = entries_from (n + 1) unknowns terms in
    let others = entries-measured h measure (n + 1) unknowns terms in
    rw (entries-more n u unknowns terms) (kept-cases (λ entries. sum_by (λ entry. h entry.1) entries ≡ sum_by (λ v. h (coefficient_at terms v)) (u ∷ unknowns)) n (coefficient_at terms u) rest
    (λ other. sum_by-cons (λ (entry : ℕ × ℤ). h entry.1) (n, coefficient_at terms u) rest
    ∙ ap (λ (k : ℕ). h (coefficient_at terms u) + k) others
    ∙ sym (sum_by-cons (λ (v : Unknown). h (coefficient_at terms v)) u unknowns))
    (λ none. others ∙ sym (sum_by-cons (λ (v : Unknown). h (coefficient_at terms v)) u unknowns ∙ rw (none, measure.none) (omega arith))))

-- the sum of two
sum_by-both : {A : Type 0} (f g : A → ℕ) (xs : List A) → sum_by (λ x. f x + g x) xs ≡ sum_by f xs + sum_by g xs
sum_by-both f g [] = refl
sum_by-both f g (x ∷ xs) =
    omega (arith, sum_by-cons (λ y. f y + g y) x xs, sum_by-cons f x xs, sum_by-cons g x xs, sum_by-both f g xs)

-- a coefficient at its unknown
unfoldable pub at_term : Term → Unknown → ℤ
at_term term u = if is_same u term.unknown then term.coefficient else pos 0

pub coefficient-more : (term : Term) (terms : List Term) (u : Unknown) → coefficient_at (term ∷ terms) u ≡ at_term term u +ℤ coefficient_at terms u
unfolding coefficient_at at_term
coefficient-more term terms u = refl

pub coefficient-none : (u : Unknown) → coefficient_at [] u ≡ pos 0
unfolding coefficient_at
coefficient-none u = refl

pub at_term-yes : (term : Term) (u : Unknown) → is_same u term.unknown ≡ true → at_term term u ≡ term.coefficient
unfolding at_term
at_term-yes term u e = rw e refl

pub at_term-no : (term : Term) (u : Unknown) → is_same u term.unknown ≡ false → at_term term u ≡ pos 0
unfolding at_term
at_term-no term u e = rw e refl

pub bool-cases : (P : Type 0) (t : Bool) → (t ≡ true → P) → (t ≡ false → P) → P
bool-cases P true if_true if_false = if_true refl
bool-cases P false if_true if_false = if_false refl

same-symmetric : (u v : Unknown) → is_same u v ≡ false → is_same v u ≡ false
same-symmetric u v e = bool-cases (is_same v u ≡ false) (is_same v u) (λ yes. let same = same-is v u yes in absurd (apart (rw same at e))) (λ other. other)
  where
    apart : is_same u u ≡ false → ⊥
    apart f = cc (f, same-refl u)

sum-none : (h : ℤ → ℕ) → IsMeasure h → (term : Term) (unknowns : List Unknown) → AllByRecursion (λ v. is_same v term.unknown ≡ false) unknowns
    → sum_by (λ u. h (at_term term u)) unknowns ≡ 0
sum-none h measure term [] none = refl
sum-none h measure term (u ∷ unknowns) none =
    sum_by-cons (λ (v : Unknown). h (at_term term v)) u unknowns ∙ rw (at_term-no term u none.0, measure.none, sum-none h measure term unknowns none.1) (omega arith)

-- a term counts at one unknown at most
sum-once : (h : ℤ → ℕ) → IsMeasure h → (term : Term) (unknowns : List Unknown) → IsDistinct is_same unknowns
    → sum_by (λ u. h (at_term term u)) unknowns ≤ h term.coefficient
unfolding IsDistinct
sum-once h measure term [] apart = omega arith
sum-once h measure term (u ∷ unknowns) apart = bool-cases _ (is_same u term.unknown) here (there (sum-once h measure term unknowns apart.1))
  where
    all : ℕ
    all = sum_by (λ (v : Unknown). h (at_term term v)) (u ∷ unknowns)

    more : all ≡ h (at_term term u) + sum_by (λ (v : Unknown). h (at_term term v)) unknowns
    more = sum_by-cons (λ (v : Unknown). h (at_term term v)) u unknowns

    here : is_same u term.unknown ≡ true → all ≤ h term.coefficient
    here same_one =
        let same = same-is u term.unknown same_one in
        let others = every-weaker (λ (v : Unknown). is_same u v ≡ false) (λ (v : Unknown). is_same v term.unknown ≡ false) (λ v e. rw (← same) (same-symmetric u v e)) unknowns apart.0 in
        omega (arith, more, sum-none h measure term unknowns others, ap h (at_term-yes term u same_one))

    there : sum_by (λ (v : Unknown). h (at_term term v)) unknowns ≤ h term.coefficient → is_same u term.unknown ≡ false → all ≤ h term.coefficient
    there others other = omega (arith, more, others, ap h (at_term-no term u other), measure.none)

-- the measures of the coefficients of unknowns that differ add up to no more than those of the terms
terms-measured : (h : ℤ → ℕ) → IsMeasure h → (terms : List Term) (unknowns : List Unknown) → IsDistinct is_same unknowns
    → sum_by (λ u. h (coefficient_at terms u)) unknowns ≤ sum_by (λ term. h term.coefficient) terms
terms-measured h measure [] unknowns apart = none unknowns
  where
    none : (us : List Unknown) → sum_by (λ u. h (coefficient_at [] u)) us ≤ 0
    none [] = omega arith
    none (u ∷ us) = omega (arith, sum_by-cons (λ (v : Unknown). h (coefficient_at [] v)) u us, ap h (coefficient-none u), measure.none, none us)
terms-measured h measure (term ∷ terms) unknowns apart =
    let bound = sum_by-le-sum_by (λ (u : Unknown). h (coefficient_at (term ∷ terms) u)) (λ (u : Unknown). h (at_term term u) + h (coefficient_at terms u)) unknowns
    (λ u. rw (coefficient-more term terms u) (measure.sum (at_term term u) (coefficient_at terms u))) in
    let both = sum_by-both (λ (u : Unknown). h (at_term term u)) (λ (u : Unknown). h (coefficient_at terms u)) unknowns in
    let once = sum-once h measure term unknowns apart in
    let others = terms-measured h measure terms unknowns apart in
    let parts = sum_by-cons (λ (t : Term). h t.coefficient) term terms in
    omega arith

pub entries-within : (h : ℤ → ℕ) → IsMeasure h → (terms : List Term) (unknowns : List Unknown) → IsDistinct is_same unknowns
    → sum_by (λ entry. h entry.1) (entries_of unknowns terms) ≤ sum_by (λ term. h term.coefficient) terms
entries-within h measure terms unknowns apart =
    rw (entries-are unknowns terms, entries-measured h measure 0 unknowns terms) (terms-measured h measure terms unknowns apart)

-- ---- a coefficient where the terms' unknowns differ

coefficient-absent : (terms : List Term) (u : Unknown) → AllByRecursion (λ v. is_same u v ≡ false) (map (λ (term : Term). term.unknown) terms) → coefficient_at terms u ≡ pos 0
coefficient-absent [] u none = coefficient-none u
coefficient-absent (term ∷ terms) u none =
    coefficient-more term terms u ∙ rw (at_term-no term u none.0, coefficient-absent terms u none.1) refl

pub coefficient-size : (bound : ℕ) → 0 < bound → (terms : List Term) (u : Unknown) → IsDistinct is_same (map (λ (term : Term). term.unknown) terms)
    → AllByRecursion (λ term. unsigned_abs term.coefficient < bound) terms → unsigned_abs (coefficient_at terms u) < bound
unfolding IsDistinct
coefficient-size bound some [] u apart small = rw (coefficient-none u) some
coefficient-size bound some (term ∷ terms) u apart small =
    bool-cases _ (is_same u term.unknown) here (there (coefficient-size bound some terms u apart.1 small.1))
  where
    here : is_same u term.unknown ≡ true → unsigned_abs (coefficient_at (term ∷ terms) u) < bound
    here same_one =
        let same = same-is u term.unknown same_one in
        let absent = coefficient-absent terms u (rw same apart.0) in
        let first = at_term-yes term u same_one in
        let size = small.0 in
        rw (coefficient-more term terms u, first, absent) (omega (arith, ints))

    there : unsigned_abs (coefficient_at terms u) < bound → is_same u term.unknown ≡ false → unsigned_abs (coefficient_at (term ∷ terms) u) < bound
    there others other = rw (coefficient-more term terms u, at_term-no term u other) (omega (arith, ints))

-- ---- the entries of a row

pub entries-ascend : (unknowns : List Unknown) (terms : List Term) → AllPairs (λ (entry : ℕ × ℤ) (later : ℕ × ℤ). entry.0 < later.0) (entries_of unknowns terms)
entries-ascend unknowns terms = rw (entries-are unknowns terms) (pairs-of (entries_from 0 unknowns terms) (entries-ordered 0 unknowns terms))

pub entries-all : (P : ℕ × ℤ → Type 0) (unknowns : List Unknown) (terms : List Term) → ((entry : ℕ × ℤ) → IsEntryOf terms 0 (length unknowns) entry → P entry)
    → All P (entries_of unknowns terms)
entries-all P unknowns terms each =
    rw (entries-are unknowns terms) (all-of P (entries_from 0 unknowns terms)
    (every-weaker (IsEntryOf terms 0 (length unknowns)) P each (entries_from 0 unknowns terms) (entries-each 0 (length unknowns) 0 unknowns terms (omega arith) (omega arith))))

-- ---- the two measures

unsigned-measure : IsMeasure unsigned_abs
unsigned-measure = record { none = refl; sum = size-add }

-- whether a coefficient counts
pub counts : ℤ → ℕ
counts z = if int_eq z (pos 0) then 0 else 1

counts-zero : (z : ℤ) → z ≡ pos 0 → counts z ≡ 0
unfolding counts
counts-zero z e = rw e refl

counts-other : (z : ℤ) → z ≢ pos 0 → counts z ≡ 1
unfolding counts
counts-other z other = by (int_eq z (pos 0)) refl
  where
    by : (t : Bool) → int_eq z (pos 0) ≡ t → ◌≡◌ {A = ℕ} (if t then 0 else 1) 1
    by true e = absurd (other ((Decides-int_eq z (pos 0)).0 e))
    by false e = refl

zero-cases : (P : Type 0) (z : ℤ) → (z ≡ pos 0 → P) → (z ≢ pos 0 → P) → P
zero-cases P z none some = by (int_eq z (pos 0)) refl
  where
    by : (t : Bool) → int_eq z (pos 0) ≡ t → P
    by true e = none ((Decides-int_eq z (pos 0)).0 e)
    by false e = some (λ f. cc (e, (Decides-int_eq z (pos 0)).1 f))

counts-most : (z : ℤ) → counts z ≤ 1
counts-most z = zero-cases _ z (λ e. omega (arith, counts-zero z e)) (λ e. omega (arith, counts-other z e))

counts-sum : (a b : ℤ) → counts (a +ℤ b) ≤ counts a + counts b
counts-sum a b = zero-cases _ a
    (λ none. zero-cases _ b
    (λ empty. let both : (a +ℤ b) ≡ pos 0 = omega (arith, ints) in omega (arith, counts-zero (a +ℤ b) both))
    (λ some. omega (arith, counts-other b some, counts-most (a +ℤ b))))
    (λ some. omega (arith, counts-other a some, counts-most (a +ℤ b)))

counts-measure : IsMeasure counts
counts-measure = record { none = counts-zero (pos 0) refl; sum = counts-sum }

-- entries that are not 0 count one each
counted : (entries : List (ℕ × ℤ)) → AllByRecursion (λ entry. entry.1 ≢ pos 0) entries → length entries ≡ sum_by (λ entry. counts entry.1) entries
counted [] each = refl
counted (entry ∷ entries) each =
    omega (arith, sum_by-cons (λ (e : ℕ × ℤ). counts e.1) entry entries, counted entries each.1, counts-other entry.1 each.0)

counted-most : (terms : List Term) → sum_by (λ term. counts term.coefficient) terms ≤ length terms
counted-most [] = omega arith
counted-most (term ∷ terms) = omega (arith, sum_by-cons (λ (t : Term). counts t.coefficient) term terms, counted-most terms, counts-most term.coefficient)

pub entries-short : (terms : List Term) (unknowns : List Unknown) → IsDistinct is_same unknowns → length (entries_of unknowns terms) ≤ length terms
entries-short terms unknowns apart =
    let each = every-weaker (IsEntryOf terms 0 (length unknowns)) (λ entry. entry.1 ≢ pos 0) (λ entry is. is.nonzero) (entries_from 0 unknowns terms)
    (entries-each 0 (length unknowns) 0 unknowns terms (omega arith) (omega arith)) in
    let count : length (entries_of unknowns terms) ≡ sum_by (λ entry. counts entry.1) (entries_of unknowns terms) =
    rw (entries-are unknowns terms) (counted (entries_from 0 unknowns terms) each) in
    omega (arith, count, entries-within counts counts-measure terms unknowns apart, counted-most terms)

pub entries-sized : (terms : List Term) (unknowns : List Unknown) → IsDistinct is_same unknowns
    → sum_by (λ entry. unsigned_abs entry.1) (entries_of unknowns terms) ≤ sum_by (λ term. unsigned_abs term.coefficient) terms
entries-sized = entries-within unsigned_abs unsigned-measure
