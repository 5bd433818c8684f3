-- The place of a name among names that differ.
use Rattle.std.proofs.Common.{◌≡◌, ◌≢◌, ℕ, Bool, true, false, List, [], ◌∷◌, Option, Some, None, map, refl, position, Vec, Global, slice_get}
use Rattle.std.specs.Prelude.{is_some}
use Rattle.std.specs.List.{AllByRecursion, IsDistinct, prefix_len}
use Rattle.std.specs.Str.{bytes_eq}
use Rattle.std.proofs.lemmas.List.{length-map}
use Rattle.std.proofs.lemmas.List.Folds.{list_any_none}
use Rattle.std.proofs.lemmas.Slice.Eq.{bytes_eq-Decides}
use Rattle.table_columns.specs.Names.{is_among, place_of}
use Rattle.table_columns.proofs.Places.{Tells, any-at, fails-all, found-at, found-none, place-is}

-- ---- the tests of names

bytes-tell : Tells bytes_eq
bytes-tell = record { is = λ x y passes. (bytes_eq-Decides x y).0 passes; again = λ x. (bytes_eq-Decides x x).1 refl }

-- the name at a place that was found
pub place-at : (name : List ℕ) (names : List (List ℕ)) (k : ℕ) → place_of name names ≡ Some k → slice_get names k ≡ Some name
unfolding place_of
place-at name names k e = found-at bytes_eq bytes-tell names k name e

pub place-none : (name : List ℕ) (names : List (List ℕ)) → place_of name names ≡ None → (k : ℕ) → slice_get names k ≢ Some name
unfolding place_of
place-none name names e = found-none bytes_eq bytes-tell names name e

-- whether a name is among others, by the place that was found
among-none : (name : List ℕ) (names : List (List ℕ)) → place_of name names ≡ None → is_among name names ≡ false
unfolding place_of is_among
among-none name names e = list_any_none (bytes_eq name) names (fails-all (bytes_eq name) names e)

among-some : (name : List ℕ) (names : List (List ℕ)) (k : ℕ) → place_of name names ≡ Some k → is_among name names ≡ true
unfolding is_among
among-some name names k e = any-at (bytes_eq name) names k name (place-at name names k e) (bytes-tell.again name)

pub among-is : (name : List ℕ) (names : List (List ℕ)) → is_among name names ≡ is_some (place_of name names)
among-is name names = by (place_of name names) (among-none name names) (among-some name names)
  where
    by : (found : Option ℕ) → (found ≡ None → is_among name names ≡ false) → ((k : ℕ) → found ≡ Some k → is_among name names ≡ true)
        → is_among name names ≡ is_some found
    by None none some = none refl
    by (Some k) none some = some k refl

-- the place where a name stands is the one that is found
pub place-of-at : (names : List (List ℕ)) → IsDistinct bytes_eq names → (k : ℕ) (name : List ℕ) → slice_get names k ≡ Some name → place_of name names ≡ Some k
unfolding place_of
place-of-at names apart k name at = place-is bytes_eq bytes-tell names apart k name at

-- ---- names by the keys that hold them

prefix_len-map : {A B : Type 0} (test : B → Bool) (f : A → B) (xs : List A) → prefix_len test (map f xs) ≡ prefix_len (λ x. test (f x)) xs
prefix_len-map test f [] = refl
prefix_len-map test f (x ∷ xs) = rw (prefix_len-map test f xs) refl

pub place-keys : (name : List ℕ) (keys : List (Vec ℕ Global)) → position (λ (key : Vec ℕ Global). bytes_eq name key.items) keys ≡ place_of name (map (λ (key : Vec ℕ Global). key.items) keys)
unfolding place_of
place-keys name keys = rw (prefix_len-map, length-map) refl

apart-keys : (x : List ℕ) (keys : List (Vec ℕ Global)) → AllByRecursion (λ (y : Vec ℕ Global). bytes_eq x y.items ≡ false) keys
    → AllByRecursion (λ y. bytes_eq x y ≡ false) (map (λ (key : Vec ℕ Global). key.items) keys)
apart-keys x [] apart = apart
apart-keys x (y ∷ keys) apart = (apart.0, apart-keys x keys apart.1)

pub distinct-keys : (keys : List (Vec ℕ Global)) → IsDistinct (λ (x y : Vec ℕ Global). bytes_eq x.items y.items) keys
    → IsDistinct bytes_eq (map (λ (key : Vec ℕ Global). key.items) keys)
unfolding IsDistinct
distinct-keys [] apart = apart
distinct-keys (x ∷ keys) apart = (apart-keys x.items keys apart.0, distinct-keys keys apart.1)
