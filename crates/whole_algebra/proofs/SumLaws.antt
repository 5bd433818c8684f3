-- Sums and dot products of lists of whole numbers.
use Rattle.std.proofs.Common.{◌≡◌, ℕ, zero, suc, ◌+◌, ◌<◌, List, [], ◌∷◌, ◌++◌, length, map, take, get_or, refl, sym, ◌∙◌, ap, ap₂, arith, add-one, ℤ, pos, ◌+ℤ◌, ◌*ℤ◌, ◌≤ℤ◌}
use Rattle.whole_algebra.specs.Sums.{int_sum, int_sum_by, dot}
use Rattle.whole_algebra.proofs.Ring.{add_assoc, add_comm, zero_add, mul_comm, mul_zero, mul_add}
use Rattle.whole_algebra.proofs.Order.{add_nonneg, add_le_add, le_refl}
use Rattle.whole_algebra.proofs.Normal.{ring, x0, x1, x2, x3, ◌⊕◌, ◌⊗◌}

pub int_sum-append : (xs ys : List ℤ) → int_sum (xs ++ ys) ≡ int_sum xs +ℤ int_sum ys
int_sum-append [] ys = sym (zero_add (int_sum ys))
int_sum-append (x ∷ xs) ys = ap (λ t. x +ℤ t) (int_sum-append xs ys) ∙ sym (add_assoc x (int_sum xs) (int_sum ys))

pub int_sum_by-append : {X : Type 0} (f : X → ℤ) (xs ys : List X) → int_sum_by f (xs ++ ys) ≡ int_sum_by f xs +ℤ int_sum_by f ys
int_sum_by-append f [] ys = sym (zero_add (int_sum_by f ys))
int_sum_by-append f (x ∷ xs) ys =
    ap (λ t. f x +ℤ t) (int_sum_by-append f xs ys) ∙ sym (add_assoc (f x) (int_sum_by f xs) (int_sum_by f ys))

-- a sum one element further, as a loop forms it
one_further : {X : Type 0} (f : X → ℤ) (xs : List X) (i : ℕ) (d : X) → i < length xs → int_sum_by f (take (suc i) xs) ≡ int_sum_by f (take i xs) +ℤ f (get_or xs i d)
one_further f [] i d inside = absurd (omega arith)
one_further f (x ∷ xs) zero d inside = add_comm (f x) (pos 0)
one_further f (x ∷ xs) (suc i) d inside =
    let later : i < length xs = omega arith in
    ap (λ z. f x +ℤ z) (one_further f xs i d later) ∙ sym (add_assoc (f x) (int_sum_by f (take i xs)) (f (get_or xs i d)))

pub int_sum_by-more : {X : Type 0} (f : X → ℤ) (xs : List X) (i : ℕ) (d : X) → i < length xs → int_sum_by f (take (i + 1) xs) ≡ int_sum_by f (take i xs) +ℤ f (get_or xs i d)
int_sum_by-more f xs i d inside = rw add-one (one_further f xs i d inside)

-- .. where the element and the sums are as code read and formed them
pub sum_more : {X : Type 0} (f : X → ℤ) (xs : List X) (k : ℕ) (x : X) (sum part : ℤ) → k < length xs → x ≡ get_or xs k x → sum ≡ int_sum_by f (take k xs) → part ≡ f x
    → sum +ℤ part ≡ int_sum_by f (take (k + 1) xs)
sum_more f xs k x sum part inside is so_far this =
    sym (int_sum_by-more f xs k x inside ∙ ap₂ (λ s t. s +ℤ t) (sym so_far) (ap f (sym is) ∙ sym this))

pub int_sum-map : {X : Type 0} (f : X → ℤ) (xs : List X) → int_sum (map f xs) ≡ int_sum_by f xs
int_sum-map f [] = refl
int_sum-map f (x ∷ xs) = ap (λ t. f x +ℤ t) (int_sum-map f xs)

-- two functions that agree have one sum
pub int_sum_by-same : {X : Type 0} (f g : X → ℤ) (xs : List X) → ((x : X) → f x ≡ g x) → int_sum_by f xs ≡ int_sum_by g xs
int_sum_by-same f g [] h = refl
int_sum_by-same f g (x ∷ xs) h = ap₂ (λ s t. s +ℤ t) (h x) (int_sum_by-same f g xs h)

-- a common factor comes out
pub int_sum_by-scale : {X : Type 0} (a : ℤ) (f : X → ℤ) (xs : List X) → int_sum_by (λ x. a *ℤ f x) xs ≡ a *ℤ int_sum_by f xs
int_sum_by-scale a f [] = sym (mul_zero a)
int_sum_by-scale a f (x ∷ xs) = ap (λ t. a *ℤ f x +ℤ t) (int_sum_by-scale a f xs) ∙ sym (mul_add a (f x) (int_sum_by f xs))

pub int_sum-scale : (a : ℤ) (xs : List ℤ) → int_sum (map (λ x. a *ℤ x) xs) ≡ a *ℤ int_sum xs
int_sum-scale a [] = sym (mul_zero a)
int_sum-scale a (x ∷ xs) = ap (λ t. a *ℤ x +ℤ t) (int_sum-scale a xs) ∙ sym (mul_add a x (int_sum xs))

-- a sum of sums is the sum of the two
pub int_sum_by-add : {X : Type 0} (f g : X → ℤ) (xs : List X) → int_sum_by (λ x. f x +ℤ g x) xs ≡ int_sum_by f xs +ℤ int_sum_by g xs
int_sum_by-add f g [] = refl
int_sum_by-add f g (x ∷ xs) =
    ap (λ t. (f x +ℤ g x) +ℤ t) (int_sum_by-add f g xs)
    ∙ ring ((x0 ⊕ x1) ⊕ (x2 ⊕ x3)) ((x0 ⊕ x2) ⊕ (x1 ⊕ x3)) (f x ∷ g x ∷ int_sum_by f xs ∷ int_sum_by g xs ∷ []) refl

-- larger terms have a larger sum
pub int_sum_by-le : {X : Type 0} (f g : X → ℤ) (xs : List X) → ((x : X) → f x ≤ℤ g x) → int_sum_by f xs ≤ℤ int_sum_by g xs
int_sum_by-le f g [] h = le_refl (pos 0)
int_sum_by-le f g (x ∷ xs) h = add_le_add (f x) (g x) (int_sum_by f xs) (int_sum_by g xs) (h x) (int_sum_by-le f g xs h)

pub int_sum_by-nonneg : {X : Type 0} (f : X → ℤ) (xs : List X) → ((x : X) → pos 0 ≤ℤ f x) → pos 0 ≤ℤ int_sum_by f xs
int_sum_by-nonneg f [] h = le_refl (pos 0)
int_sum_by-nonneg f (x ∷ xs) h = add_nonneg (f x) (int_sum_by f xs) (h x) (int_sum_by-nonneg f xs h)

-- ---- dot products
pub dot-nil : (xs : List ℤ) → dot xs [] ≡ pos 0
dot-nil [] = refl
dot-nil (x ∷ xs) = refl

pub dot_comm : (xs ys : List ℤ) → dot xs ys ≡ dot ys xs
dot_comm [] [] = refl
dot_comm [] (y ∷ ys) = refl
dot_comm (x ∷ xs) [] = refl
dot_comm (x ∷ xs) (y ∷ ys) = ap₂ (λ s t. s +ℤ t) (mul_comm x y) (dot_comm xs ys)

pub dot-scale_right : (a : ℤ) (xs ys : List ℤ) → dot xs (map (λ y. a *ℤ y) ys) ≡ a *ℤ dot xs ys
dot-scale_right a [] ys = sym (mul_zero a)
dot-scale_right a (x ∷ xs) [] = sym (mul_zero a)
dot-scale_right a (x ∷ xs) (y ∷ ys) =
    ap (λ t. x *ℤ (a *ℤ y) +ℤ t) (dot-scale_right a xs ys)
    ∙ ring (x1 ⊗ (x0 ⊗ x2) ⊕ x0 ⊗ x3) (x0 ⊗ (x1 ⊗ x2 ⊕ x3)) (a ∷ x ∷ y ∷ dot xs ys ∷ []) refl

pub dot-scale_left : (a : ℤ) (xs ys : List ℤ) → dot (map (λ x. a *ℤ x) xs) ys ≡ a *ℤ dot xs ys
dot-scale_left a xs ys = dot_comm (map (λ x. a *ℤ x) xs) ys ∙ dot-scale_right a ys xs ∙ ap (λ t. a *ℤ t) (dot_comm ys xs)

-- for an answer that wants some of them
pub ruleset sum_laws = (int_sum-append, int_sum-map, int_sum-scale, int_sum_by-append, int_sum_by-scale, int_sum_by-add, dot_comm, dot-nil, dot-scale_left, dot-scale_right)
