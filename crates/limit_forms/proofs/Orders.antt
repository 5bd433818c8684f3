-- The order of a limit's unknowns has each of them once.
use Rattle.std.proofs.Common.{◌≡◌, ◌≢◌, ◌==◌, ℕ, zero, suc, ◌+◌, ◌<◌, ◌≤◌, inl, inr, cond, Bool, true, false, List, [], ◌∷◌, ◌++◌, length, map, get_or, refl, sym, ◌∙◌, ap, ap₂, arith, ℤ, length-append, eqb-true, eq-eqb}
use Rattle.std.specs.Prelude.{All, count_by, not}
use Rattle.std.specs.List.{filter, range_with_len}
use Rattle.std.proofs.lemmas.List.Sums.{sum_by-cons, sum_by-append}
use Rattle.std.proofs.lemmas.List.Elements.{All-nil, All-cons, All-head, All-tail}
use Rattle.std.proofs.lemmas.List.FromFn.{length-range_with_len}
use Rattle.std.proofs.lemmas.Bool.{cases_lt}
use Rattle.whole_algebra.specs.Matrices.{at}
use Rattle.geo_model.specs.Limit.{SquareOf}
use Rattle.normal_matrix.specs.Entries.{HasEachOnce}
use Rattle.limit_forms.specs.Grid.{occurs, order_of}

-- 1 for a test that holds, else 0
abbrev pub tick : Bool → ℕ
tick b = cond b 1 0

tick-same : (i j : ℕ) → i ≡ j → tick (i == j) ≡ 1
tick-same i j e = ap tick (eq-eqb i j e)

pub tick-other : (i j : ℕ) → (i ≡ j → ⊥) → tick (i == j) ≡ 0
tick-other i j h = by (i == j) (λ e. h (eqb-true i j e))
  where
    by : (b : Bool) → (b ≡ true → ⊥) → tick b ≡ 0
    by true never = absurd (never refl)
    by false never = refl

pub count-cons : {X : Type 0} (q : X → Bool) (x : X) (xs : List X) → count_by q (x ∷ xs) ≡ tick (q x) + count_by q xs
count-cons q x xs = sum_by-cons (λ y. tick (q y)) x xs

count-append : {X : Type 0} (q : X → Bool) (xs ys : List X) → count_by q (xs ++ ys) ≡ count_by q xs + count_by q ys
count-append q xs ys = sum_by-append (λ y. tick (q y)) xs ys

-- ---- two filters, one the opposite of the other
split_count : (p q : ℕ → Bool) (xs : List ℕ) → count_by q (filter p xs) + count_by q (filter (λ x. not (p x)) xs) ≡ count_by q xs
split_count p q [] = refl
split_count p q (x ∷ xs) =
    let one = count-cons q x xs in
    let first = count-cons q x (filter p xs) in
    let second = count-cons q x (filter (λ y. not (p y)) xs) in
    by (p x) (split_count p q xs) one first second
  where
    by : (b : Bool) → count_by q (filter p xs) + count_by q (filter (λ x. not (p x)) xs) ≡ count_by q xs
        → count_by q (x ∷ xs) ≡ tick (q x) + count_by q xs
        → count_by q (x ∷ filter p xs) ≡ tick (q x) + count_by q (filter p xs)
        → count_by q (x ∷ filter (λ y. not (p y)) xs) ≡ tick (q x) + count_by q (filter (λ y. not (p y)) xs)
        → count_by q (cond b (x ∷ filter p xs) (filter p xs)) + count_by q (cond (not b) (x ∷ filter (λ y. not (p y)) xs) (filter (λ y. not (p y)) xs)) ≡ count_by q (x ∷ xs)
    by true e one first second = omega arith
    by false e one first second = omega arith

pub split_length : (p : ℕ → Bool) (xs : List ℕ) → length (filter p xs) + length (filter (λ x. not (p x)) xs) ≡ length xs
split_length p [] = refl
split_length p (x ∷ xs) = by (p x) (split_length p xs)
  where
    by : (b : Bool) → length (filter p xs) + length (filter (λ x. not (p x)) xs) ≡ length xs
        → length (cond b (x ∷ filter p xs) (filter p xs)) + length (cond (not b) (x ∷ filter (λ y. not (p y)) xs) (filter (λ y. not (p y)) xs)) ≡ suc (length xs)
    by true e = omega arith
    by false e = omega arith

-- ---- a range has each of its numbers once
none_of_range : (i a n : ℕ) → i < a → count_by (λ u. i == u) (range_with_len a n) ≡ 0
none_of_range i a zero before = refl
none_of_range i a (suc n) before =
    let later = none_of_range i (a + 1) n (omega arith) in
    let one = count-cons (λ u. i == u) a (range_with_len (a + 1) n) in
    let apart = tick-other i a (λ e. absurd (omega arith)) in
    omega arith

one_of_range : (i a n : ℕ) → a ≤ i → i < a + n → count_by (λ u. i == u) (range_with_len a n) ≡ 1
one_of_range i a zero from to = absurd (omega arith)
one_of_range i a (suc n) from to =
    let one = count-cons (λ u. i == u) a (range_with_len (a + 1) n) in
    elim (cases_lt a i) [
      | inl less ↦
          let later = one_of_range i (a + 1) n (omega arith) (omega arith) in
          let apart = tick-other i a (λ e. absurd (omega arith)) in
          omega arith
      | inr le ↦
          let later = none_of_range i (a + 1) n (omega arith) in
          let same = tick-same i a (omega arith) in
          omega arith
    ]

pub order_of-each_once : (n : ℕ) (squares : List SquareOf) → HasEachOnce n (order_of n squares)
unfolding order_of
order_of-each_once n squares i below =
    count-append (λ u. i == u) (filter (occurs squares) (range_with_len 0 n)) (filter (λ u. not (occurs squares u)) (range_with_len 0 n))
    ∙ split_count (occurs squares) (λ u. i == u) (range_with_len 0 n)
    ∙ one_of_range i 0 n (omega arith) (omega arith)

pub length-order_of : (n : ℕ) (squares : List SquareOf) → length (order_of n squares) ≡ n
unfolding order_of
length-order_of n squares =
    length-append (filter (occurs squares) (range_with_len 0 n)) (filter (λ u. not (occurs squares u)) (range_with_len 0 n))
    ∙ split_length (occurs squares) (range_with_len 0 n)
    ∙ length-range_with_len 0 n

-- ---- its numbers are below n
All-kept : (P : ℕ → Type 0) (x : ℕ) (xs : List ℕ) (b : Bool) → P x → All P xs → All P (cond b (x ∷ xs) xs)
All-kept P x xs true first all = All-cons P x xs first all
All-kept P x xs false first all = all

All-filter : (P : ℕ → Type 0) (p : ℕ → Bool) (xs : List ℕ) → All P xs → All P (filter p xs)
All-filter P p [] all = all
All-filter P p (x ∷ xs) all = All-kept P x (filter p xs) (p x) (All-head P x xs all) (All-filter P p xs (All-tail P x xs all))

All-range : (a n m : ℕ) → a + n ≤ m → All (λ u. u < m) (range_with_len a n)
All-range a zero m le = All-nil (λ u. u < m)
All-range a (suc n) m le = All-cons (λ u. u < m) a (range_with_len (a + 1) n) (omega arith) (All-range (a + 1) n m (omega arith))

All-append : (P : ℕ → Type 0) (xs ys : List ℕ) → All P xs → All P ys → All P (xs ++ ys)
All-append P [] ys all more = more
All-append P (x ∷ xs) ys all more = All-cons P x (xs ++ ys) (All-head P x xs all) (All-append P xs ys (All-tail P x xs all) more)

pub order_of-below : (n : ℕ) (squares : List SquareOf) → All (λ u. u < n) (order_of n squares)
unfolding order_of
order_of-below n squares =
    All-append (λ u. u < n) (filter (occurs squares) (range_with_len 0 n)) (filter (λ u. not (occurs squares u)) (range_with_len 0 n))
    (All-filter (λ u. u < n) (occurs squares) (range_with_len 0 n) (All-range 0 n n (omega arith)))
    (All-filter (λ u. u < n) (λ u. not (occurs squares u)) (range_with_len 0 n) (All-range 0 n n (omega arith)))

-- ---- a list over the order is a displacement
place_of : ℕ → List ℕ → ℕ
place_of i [] = 0
place_of i (u ∷ us) = cond (i == u) 0 (suc (place_of i us))

-- the displacement with the numbers of a list, in the order of the unknowns
pub spread : List ℤ → List ℕ → ℕ → ℤ
spread x us i = at x (place_of i us)

IsApart : List ℕ → Type 0
IsApart [] = Unit {0}
IsApart (u ∷ us) = (count_by (λ v. u == v) us ≡ 0) × IsApart us

at_most_once : (n : ℕ) (us : List ℕ) → All (λ u. u < n) us → ((i : ℕ) → i < n → count_by (λ v. i == v) us ≤ 1) → IsApart us
unfolding IsApart
at_most_once n [] all few = tt
at_most_once n (u ∷ us) all few =
    let here = few u (All-head (λ v. v < n) u us all) in
    let one = count-cons (λ v. u == v) u us in
    let self = tick-same u u refl in
    (omega arith, at_most_once n us (All-tail (λ v. v < n) u us all) (λ i lt. let one = count-cons (λ v. i == v) u us in let h = few i lt in omega arith))

spread_later : (z : ℤ) (x : List ℤ) (u : ℕ) (us vs : List ℕ) → count_by (λ v. u == v) vs ≡ 0 → map (spread (z ∷ x) (u ∷ us)) vs ≡ map (spread x us) vs
unfolding spread place_of
spread_later z x u us [] none = refl
spread_later z x u us (v ∷ vs) none =
    let one = count-cons (λ w. u == w) v vs in
    let apart : v ≢ u = λ e. absurd (let f = tick-same u v (sym e) in omega arith) in
    ap₂ ◌∷◌ (by (v == u) (λ e. apart (eqb-true v u e))) (spread_later z x u us vs (omega arith))
  where
    by : (b : Bool) → (b ≡ true → ⊥) → at (z ∷ x) (cond b 0 (suc (place_of v us))) ≡ at x (place_of v us)
    by true never = absurd (never refl)
    by false never = refl

map-spread : (x : List ℤ) (us : List ℕ) → length x ≡ length us → IsApart us → map (spread x us) us ≡ x
unfolding IsApart spread place_of
map-spread [] [] e apart = refl
map-spread [] (u ∷ us) e apart = absurd (omega arith)
map-spread (z ∷ x) [] e apart = absurd (omega arith)
map-spread (z ∷ x) (u ∷ us) e apart =
    ap₂ ◌∷◌ (ap (λ b. at (z ∷ x) (cond b 0 (suc (place_of u us)))) (eq-eqb u u refl))
    (spread_later z x u us us apart.0 ∙ map-spread x us (omega arith) apart.1)

order_of-apart_each : (n : ℕ) (squares : List SquareOf) → IsApart (order_of n squares)
order_of-apart_each n squares =
    at_most_once n (order_of n squares) (order_of-below n squares) (λ i lt. let h = order_of-each_once n squares i lt in omega arith)

pub spread_over_order : (n : ℕ) (squares : List SquareOf) (x : List ℤ) → length x ≡ n → map (spread x (order_of n squares)) (order_of n squares) ≡ x
spread_over_order n squares x e =
    map-spread x (order_of n squares) (e ∙ sym (length-order_of n squares)) (order_of-apart_each n squares)

-- ---- no unknown stands at two places
counted_at : (u : ℕ) (us : List ℕ) (j : ℕ) → j < length us → get_or us j 0 ≡ u → 1 ≤ count_by (λ v. u == v) us
counted_at u [] j lt e = absurd (omega arith)
counted_at u (v ∷ us) zero lt e = let one = count-cons (λ w. u == w) v us in let same = tick-same u v (sym e) in omega arith
counted_at u (v ∷ us) (suc j) lt e = let one = count-cons (λ w. u == w) v us in let later = counted_at u us j (omega arith) e in omega arith

apart_places : (us : List ℕ) (i j : ℕ) → IsApart us → i < j → j < length us → get_or us i 0 ≢ get_or us j 0
unfolding IsApart
apart_places [] i j apart less lt = absurd (omega arith)
apart_places (u ∷ us) i zero apart less lt = absurd (omega arith)
apart_places (u ∷ us) zero (suc j) apart less lt = λ e. absurd (let some = counted_at u us j (omega arith) (sym e) in let none = apart.0 in omega arith)
apart_places (u ∷ us) (suc i) (suc j) apart less lt = apart_places us i j apart.1 (omega arith) (omega arith)

pub order_of-apart : (n : ℕ) (squares : List SquareOf) (i j : ℕ) → i < j → j < n → get_or (order_of n squares) i 0 ≢ get_or (order_of n squares) j 0
order_of-apart n squares i j less lt =
    let len = length-order_of n squares in
    apart_places (order_of n squares) i j (order_of-apart_each n squares) less (omega arith)
