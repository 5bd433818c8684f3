-- The place of an element among others, by a test that tells whether two are the same.
use Rattle.std.proofs.Common.{◌≡◌, ◌≢◌, ◌∙◌, ◌<◌, ◌≤◌, ℕ, zero, suc, Bool, true, false, List, [], ◌∷◌, Option, Some, None, length, refl, sym, ap, arith, get_or, position, slice_get, cond}
use Rattle.std.specs.Prelude.{◌||◌, nat_lt}
use Rattle.std.specs.List.{AllByRecursion, IsDistinct, list_any, position_or_len}
use Rattle.std.proofs.lemmas.Bool.Decides.{nat_tests}
use Rattle.std.proofs.lemmas.List.Quantifiers.{position-Some}
use Rattle.std.proofs.lemmas.List.Sums.{fails_before_first}
use Rattle.std.proofs.lemmas.Option.{slice_get-get_or, slice_get_within, get_or_from_slice_get}

-- the test tells whether two are the same
pub record Tells {X : Type 0} (same : X → X → Bool) : Type 0 where
  pub is : (x y : X) → same x y ≡ true → x ≡ y
  pub again : (x : X) → same x x ≡ true

-- where none was found none passes
pub fails-all : {X : Type 0} (test : X → Bool) (xs : List X) → position test xs ≡ None → (k : ℕ) (d : X) → k < length xs → test (get_or xs k d) ≡ false
fails-all test xs e k d within = by (nat_lt (position_or_len test xs) (length xs)) refl e
  where
    by : (t : Bool) → nat_lt (position_or_len test xs) (length xs) ≡ t → cond t (Some (position_or_len test xs)) None ≡ None → test (get_or xs k d) ≡ false
    by true t f = cc f
    by false t f =
        let past : length xs ≤ position_or_len test xs = grind (arith, nat_tests) in
        fails_before_first test xs k d (omega arith)

or-right : (a b : Bool) → b ≡ true → (a || b) ≡ true
or-right true b e = refl
or-right false b e = e

-- where one passes some does
pub any-at : {X : Type 0} (test : X → Bool) (xs : List X) (k : ℕ) (x : X) → slice_get xs k ≡ Some x → test x ≡ true → list_any test xs ≡ true
any-at test [] k x at passes = cc at
any-at test (y ∷ xs) zero x at passes =
    let same : y ≡ x = cc at in
    rw (same, passes) refl
any-at test (y ∷ xs) (suc k) x at passes = or-right (test y) (list_any test xs) (any-at test xs k x at passes)

-- the element at a place that was found
pub found-at : {X : Type 0} (same : X → X → Bool) → Tells same → (xs : List X) (k : ℕ) (x : X) → position (same x) xs ≡ Some k → slice_get xs k ≡ Some x
found-at same tells xs k x e =
    let (within, passes, first) = position-Some (same x) xs k x e in
    slice_get-get_or xs k x within ∙ ap Some (sym (tells.is x (get_or xs k x) passes))

pub found-none : {X : Type 0} (same : X → X → Bool) → Tells same → (xs : List X) (x : X) → position (same x) xs ≡ None → (k : ℕ) → slice_get xs k ≢ Some x
found-none same tells xs x e k at =
    let fails = fails-all (same x) xs e k x (slice_get_within xs k x at) in
    let here = get_or_from_slice_get xs k x x at in
    let passes = tells.again x in
    cc (fails, ap (same x) here, passes)

-- ---- elements that differ

apart-at : {X : Type 0} (same : X → X → Bool) → Tells same → (x : X) (xs : List X) → AllByRecursion (λ y. same x y ≡ false) xs → (k : ℕ) → slice_get xs k ≢ Some x
apart-at same tells x [] apart k e = cc e
apart-at same tells x (y ∷ xs) apart zero e =
    let here : y ≡ x = cc e in
    let passes = tells.again x in
    cc (apart.0, ap (same x) here, passes)
apart-at same tells x (y ∷ xs) apart (suc k) e = apart-at same tells x xs apart.1 k e

-- an element has one place
pub one-place : {X : Type 0} (same : X → X → Bool) → Tells same → (xs : List X) → IsDistinct same xs → (i j : ℕ) (x : X) → slice_get xs i ≡ Some x → slice_get xs j ≡ Some x → i ≡ j
unfolding IsDistinct
one-place same tells [] apart i j x a b = cc a
one-place same tells (y ∷ xs) apart zero zero x a b = refl
one-place same tells (y ∷ xs) apart zero (suc j) x a b =
    let here : x ≡ y = cc a in
    absurd (apart-at same tells y xs apart.0 j (b ∙ ap Some here))
one-place same tells (y ∷ xs) apart (suc i) zero x a b =
    let here : x ≡ y = cc b in
    absurd (apart-at same tells y xs apart.0 i (a ∙ ap Some here))
one-place same tells (y ∷ xs) apart (suc i) (suc j) x a b = ap suc (one-place same tells xs apart.1 i j x a b)

-- the place where an element stands is the one that is found
pub place-is : {X : Type 0} (same : X → X → Bool) → Tells same → (xs : List X) → IsDistinct same xs → (k : ℕ) (x : X) → slice_get xs k ≡ Some x → position (same x) xs ≡ Some k
place-is same tells xs apart k x at = by (position (same x) xs) (λ j e. found-at same tells xs j x e) (found-none same tells xs x)
  where
    by : (found : Option ℕ) → ((j : ℕ) → found ≡ Some j → slice_get xs j ≡ Some x) → (found ≡ None → (j : ℕ) → slice_get xs j ≢ Some x) → found ≡ Some k
    by None some none = absurd (none refl k at)
    by (Some j) some none = ap Some (one-place same tells xs apart j k x (some j refl) at)
