-- Lists made of what stands at each number, and sums over lists.
use Rattle.std.proofs.Common.{◌≡◌, ◌∙◌, ◌+◌, ◌<◌, ◌≤◌, ℕ, ℤ, pos, ◌+ℤ◌, ◌≤ℤ◌, Bool, false, List, [], ◌∷◌, length, map, refl, sym, ap, arith, cond}
use Rattle.std.specs.Prelude.{All, sum_by, count_by}
use Rattle.std.specs.List.{enumerate_from, flat_map}
use Rattle.std.proofs.lemmas.Int.{ints}
use Rattle.std.proofs.lemmas.List.{length-map}
use Rattle.std.proofs.lemmas.List.Elements.{All-nil, All-cons, All-head, All-tail, All-append, All-weaker}
use Rattle.std.proofs.lemmas.List.FromFn.{length-enumerate_from}
use Rattle.std.proofs.lemmas.List.Sums.{sum_by-cons}
use Rattle.whole_algebra.specs.Sums.{int_sum_by}
use Rattle.whole_algebra.proofs.Order.{le_refl, add_nonneg}

-- what holds of the parts of each numbered element holds of all parts
pub All-parts : {X Y : Type 0} (P : Y → Type 0) (Q : X → Type 0) (f : ℕ × X → List Y) (top n : ℕ) (xs : List X)
    → ((k : ℕ) (x : X) → k < top → Q x → All P (f (k, x))) → n + length xs ≤ top → All Q xs → All P (flat_map f (enumerate_from n xs))
All-parts P Q f top n [] each within all = All-nil P
All-parts P Q f top n (x ∷ xs) each within all =
    All-append P (f (n, x)) (flat_map f (enumerate_from (n + 1) xs))
    (each n x (omega arith) (All-head Q x xs all))
    (All-parts P Q f top (n + 1) xs each (omega arith) (All-tail Q x xs all))

-- what holds of what each numbered element gives holds of all of it
pub All-numbered : {X Y : Type 0} (P : Y → Type 0) (Q : X → Type 0) (f : ℕ × X → Y) (n : ℕ) (xs : List X)
    → ((k : ℕ) (x : X) → Q x → P (f (k, x))) → All Q xs → All P (map f (enumerate_from n xs))
All-numbered P Q f n [] each all = All-nil P
All-numbered P Q f n (x ∷ xs) each all =
    All-cons P (f (n, x)) (map f (enumerate_from (n + 1) xs)) (each n x (All-head Q x xs all)) (All-numbered P Q f (n + 1) xs each (All-tail Q x xs all))

-- there are as many
pub length-numbered : {X Y : Type 0} (f : ℕ × X → Y) (n : ℕ) (xs : List X) → length (map f (enumerate_from n xs)) ≡ length xs
length-numbered f n xs = length-map (enumerate_from n xs) f ∙ length-enumerate_from n xs

pub sum_by-map : {X Y : Type 0} (g : Y → ℕ) (f : X → Y) (xs : List X) → sum_by g (map f xs) ≡ sum_by (λ x. g (f x)) xs
sum_by-map g f [] = refl
sum_by-map g f (x ∷ xs) = sum_by-cons g (f x) (map f xs) ∙ ap (λ (k : ℕ). g (f x) + k) (sum_by-map g f xs) ∙ sym (sum_by-cons (λ y. g (f y)) x xs)

-- none is counted where each fails the test
pub count-none : {X : Type 0} (test : X → Bool) (xs : List X) → All (λ x. test x ≡ false) xs → count_by test xs ≡ 0
count-none test [] all = refl
count-none test (x ∷ xs) all =
    let here : ◌≡◌ {A = ℕ} (cond (test x) 1 0) 0 = ap (λ (t : Bool). cond {A = ℕ} t 1 0) (All-head (λ y. test y ≡ false) x xs all) in
    omega (arith, here, sum_by-cons (λ y. cond (test y) 1 0) x xs, count-none test xs (All-tail (λ y. test y ≡ false) x xs all))
