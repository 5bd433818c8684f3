-- Places of lists.
use Rattle.std.proofs.Common.{◌≡◌, ◌<◌, ◌⊎◌, inl, inr, ℕ, zero, suc, List, [], ◌∷◌, ◌++◌, length, map, arith, refl, ap, Some}
use Rattle.std.specs.Prelude.{slice_get, slice_set}

pub same_some : {X : Type 0} (a b : X) → Some a ≡ Some b → a ≡ b
same_some a b e = cc

-- what a place holds stays where a list grows
pub get_front : {X : Type 0} (xs ys : List X) (i : ℕ) (x : X) → slice_get xs i ≡ Some x → slice_get (xs ++ ys) i ≡ Some x
get_front [] ys i x is = absurd (cc)
get_front (z ∷ xs) ys zero x is = is
get_front (z ∷ xs) ys (suc i) x is = get_front xs ys i x is

-- the place past a list is that of what comes next
pub get_next : {X : Type 0} (xs : List X) (x : X) → slice_get (xs ++ x ∷ []) (length xs) ≡ Some x
get_next [] x = refl
get_next (z ∷ xs) x = get_next xs x

-- what a longer list holds is in the list, or next to it
pub get_either : {X : Type 0} (xs : List X) (y : X) (i : ℕ) (x : X) → slice_get (xs ++ y ∷ []) i ≡ Some x → (slice_get xs i ≡ Some x) ⊎ ((i ≡ length xs) × (y ≡ x))
get_either [] y zero x is = inr (refl, same_some y x is)
get_either [] y (suc i) x is = absurd (cc)
get_either (z ∷ xs) y zero x is = inl is
get_either (z ∷ xs) y (suc i) x is =
    elim (get_either xs y i x is) [
      | inl before ↦ inl before
      | inr last ↦ inr (ap suc last.0, last.1)
    ]

-- what a mapped list holds is the image of what the list holds
pub get_map : {X Y : Type 0} (f : X → Y) (xs : List X) (i : ℕ) (y : Y) → slice_get (map f xs) i ≡ Some y → (x : X) × (slice_get xs i ≡ Some x) × (f x ≡ y)
get_map f [] i y is = absurd (cc)
get_map f (x ∷ xs) zero y is = (x, refl, same_some (f x) y is)
get_map f (x ∷ xs) (suc i) y is = get_map f xs i y is

pub map_get : {X Y : Type 0} (f : X → Y) (xs : List X) (i : ℕ) (x : X) → slice_get xs i ≡ Some x → slice_get (map f xs) i ≡ Some (f x)
map_get f [] i x is = absurd (cc)
map_get f (z ∷ xs) zero x is = ap Some (ap f (same_some z x is))
map_get f (z ∷ xs) (suc i) x is = map_get f xs i x is

-- a place inside a list holds something
pub get_inside : {X : Type 0} (xs : List X) (i : ℕ) → i < length xs → (x : X) × (slice_get xs i ≡ Some x)
get_inside [] i inside = absurd (omega arith)
get_inside (x ∷ xs) zero inside = (x, refl)
get_inside (x ∷ xs) (suc i) inside = get_inside xs i (omega arith)

-- one place is written
pub set_here : {X : Type 0} (xs : List X) (i : ℕ) (x : X) → i < length xs → slice_get (slice_set xs i x) i ≡ Some x
set_here [] i x inside = absurd (omega arith)
set_here (z ∷ xs) zero x inside = refl
set_here (z ∷ xs) (suc i) x inside = set_here xs i x (omega arith)

pub set_elsewhere : {X : Type 0} (xs : List X) (i j : ℕ) (x : X) → (j ≡ i → ⊥) → slice_get (slice_set xs i x) j ≡ slice_get xs j
set_elsewhere [] i j x apart = refl
set_elsewhere (z ∷ xs) zero zero x apart = absurd (apart refl)
set_elsewhere (z ∷ xs) zero (suc j) x apart = refl
set_elsewhere (z ∷ xs) (suc i) zero x apart = refl
set_elsewhere (z ∷ xs) (suc i) (suc j) x apart = set_elsewhere xs i j x (λ e. apart (ap suc e))
