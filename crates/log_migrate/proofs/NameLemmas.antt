-- Names by the vectors that hold their bytes.
use Rattle.std.proofs.Common.{◌≡◌, ◌∙◌, ℕ, ◌<◌, ◌≤◌, Bool, false, List, [], ◌∷◌, ◌++◌, length, map, position, refl, ap, arith, Vec, Global, length-append}
use Rattle.std.specs.Prelude.{◌||◌, if◌then◌else◌}
use Rattle.std.specs.List.{list_any, prefix_len}
use Rattle.std.specs.Str.{bytes_eq}
use Rattle.std.proofs.lemmas.List.{length-map, map-append}

abbrev pub lines_named : List (Vec ℕ Global) → List (List ℕ)
lines_named keys = map (λ (key : Vec ℕ Global). key.items) keys

prefix_len-map : {A B : Type 0} (test : B → Bool) (f : A → B) (xs : List A) → prefix_len test (map f xs) ≡ prefix_len (λ x. test (f x)) xs
prefix_len-map test f [] = refl
prefix_len-map test f (x ∷ xs) = rw (prefix_len-map test f xs) refl

pub place_by_keys : (name : List ℕ) (keys : List (Vec ℕ Global)) → position (λ (key : Vec ℕ Global). bytes_eq name key.items) keys ≡ position (bytes_eq name) (lines_named keys)
place_by_keys name keys = rw (prefix_len-map, length-map) refl

pub any_by_keys : (name : List ℕ) (keys : List (Vec ℕ Global)) → list_any (λ (key : Vec ℕ Global). bytes_eq name key.items) keys ≡ list_any (bytes_eq name) (lines_named keys)
any_by_keys name [] = refl
any_by_keys name (key ∷ keys) = ap (λ b. bytes_eq name key.items || b) (any_by_keys name keys)

-- a name that isn't given goes last
pub given_last : (keys now : List (Vec ℕ Global)) (name : Vec ℕ Global) → list_any (bytes_eq name.items) (lines_named keys) ≡ false
    → now ≡ (if list_any (λ (key : Vec ℕ Global). bytes_eq name.items key.items) keys then keys else keys ++ name ∷ []) → now ≡ keys ++ name ∷ []
given_last keys now name other put = put ∙ ap (λ b. if b then keys else keys ++ name ∷ []) (any_by_keys name.items keys ∙ other)

pub given_lines : (keys now : List (Vec ℕ Global)) (name : Vec ℕ Global) → now ≡ keys ++ name ∷ [] → lines_named now ≡ lines_named keys ++ name.items ∷ []
given_lines keys now name is = ap lines_named is ∙ map-append (λ (key : Vec ℕ Global). key.items) keys (name ∷ [])

pub few_given : (keys now : List (Vec ℕ Global)) (name : Vec ℕ Global) → now ≡ keys ++ name ∷ [] → length (lines_named keys) < 65536 → length now ≤ 65536
few_given keys now name is few = omega (arith, few, ap length is, length-append keys (name ∷ []), length-map keys (λ (key : Vec ℕ Global). key.items))
