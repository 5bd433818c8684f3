-- The unknowns of one more point, and one more candidate.
use Rattle.std.proofs.Common.{◌≡◌, ◌∙◌, ◌+◌, ◌<◌, ℕ, zero, suc, Bool, true, false, List, [], ◌∷◌, ◌++◌, length, take, refl, sym, ap, arith, slice_get, Some}
use Rattle.std.specs.Prelude.{◌||◌}
use Rattle.std.specs.List.{enumerate_from, flat_map, list_any}
use Rattle.std.proofs.lemmas.List.{flat_map_more, length-take-le, take_more}
use Rattle.std.proofs.lemmas.List.Folds.{list_any-append}
use Rattle.std.proofs.lemmas.Option.{slice_get_within, get_or_from_slice_get}

-- one more element of a list that is taken from the front
pub take-one : {A : Type 0} (xs : List A) (k : ℕ) (x : A) → slice_get xs k ≡ Some x → take (k + 1) xs ≡ take k xs ++ x ∷ []
take-one xs k x at = take_more xs k x (slice_get_within xs k x at) ∙ ap (λ y. take k xs ++ y ∷ []) (get_or_from_slice_get xs k x x at)

-- the element at a place within a list
pub element-at : {A : Type 0} (xs : List A) (k : ℕ) → k < length xs → (x : A) × (slice_get xs k ≡ Some x)
element-at [] k less = absurd (omega arith)
element-at (x ∷ xs) zero less = (x, refl)
element-at (x ∷ xs) (suc k) less = element-at xs k (omega arith)

pub enumerate-push : {A : Type 0} (n : ℕ) (xs : List A) (x : A) → enumerate_from n (xs ++ x ∷ []) ≡ enumerate_from n xs ++ (n + length xs, x) ∷ []
enumerate-push n [] x = ap (λ (k : ℕ). (k, x) ∷ []) (omega arith)
enumerate-push n (y ∷ xs) x =
    ap (λ rest. (n, y) ∷ rest) (enumerate-push (n + 1) xs x)
    ∙ ap (λ (k : ℕ). (n, y) ∷ (enumerate_from (n + 1) xs ++ (k, x) ∷ [])) (omega arith)

-- one more numbered element
pub numbered-more : {A : Type 0} (xs : List A) (k : ℕ) (x : A) → slice_get xs k ≡ Some x
    → enumerate_from 0 (take (k + 1) xs) ≡ enumerate_from 0 (take k xs) ++ (k, x) ∷ []
numbered-more xs k x at =
    let within = slice_get_within xs k x at in
    ap (λ ys. enumerate_from 0 ys) (take-one xs k x at)
    ∙ enumerate-push 0 (take k xs) x
    ∙ ap (λ (n : ℕ). enumerate_from 0 (take k xs) ++ (n, x) ∷ []) (let same = length-take-le k xs (omega arith) in omega arith)

pub mapped-more : {A B : Type 0} (f : ℕ × A → List B) (start before after : List B) (xs : List A) (k : ℕ) (x : A) → slice_get xs k ≡ Some x
    → before ≡ start ++ flat_map f (enumerate_from 0 (take k xs)) → after ≡ before ++ f (k, x)
    → after ≡ start ++ flat_map f (enumerate_from 0 (take (k + 1) xs))
mapped-more f start before after xs k x at is next =
    next
    ∙ ap (λ ys. ys ++ f (k, x)) is
    ∙ flat_map_more f start (enumerate_from 0 (take k xs)) (k, x)
    ∙ ap (λ ys. start ++ flat_map f ys) (sym (numbered-more xs k x at))

-- ---- whether one passes

or-false : (a b : Bool) → a ≡ false → b ≡ false → (a || b) ≡ false
or-false true b e f = e
or-false false b e f = f

pub any-more : {A : Type 0} (test : A → Bool) (xs : List A) (k : ℕ) (x : A) → slice_get xs k ≡ Some x → list_any test (take k xs) ≡ false → test x ≡ false
    → list_any test (take (k + 1) xs) ≡ false
any-more test xs k x at none fails =
    ap (list_any test) (take-one xs k x at) ∙ list_any-append test (take k xs) (x ∷ [])
    ∙ or-false (list_any test (take k xs)) (test x || false) none (or-false (test x) false fails refl)
