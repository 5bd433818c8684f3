-- Texts that grow.
use Rattle.std.proofs.Common.{◌≡◌, ℕ, zero, suc, ◌+◌, List, [], ◌∷◌, ◌++◌, take, ap, sym, ◌∙◌, Some, add-one, append_assoc}
use Rattle.std.specs.Prelude.{slice_get, flat_map}
use Rattle.std.proofs.lemmas.List.{append-nil}
use Rattle.limit_lines.proofs.Pieces.{before}

flat_map-suc : {X : Type 0} (f : X → List ℕ) (xs : List X) (n : ℕ) (x : X) → slice_get xs n ≡ Some x → flat_map f (take (suc n) xs) ≡ flat_map f (take n xs) ++ f x
flat_map-suc f [] n x here = absurd (cc)
flat_map-suc f (y ∷ xs) zero x here = let same : y ≡ x = cc in append-nil (f y) ∙ ap f same
flat_map-suc f (y ∷ xs) (suc n) x here = ap (λ t. f y ++ t) (flat_map-suc f xs n x here) ∙ sym (append_assoc (f y) (flat_map f (take n xs)) (f x))

-- the texts of one element more
pub flat_map-grows : {X : Type 0} (f : X → List ℕ) (xs : List X) (n : ℕ) (x : X) (t0 t1 t2 : List ℕ) → slice_get xs n ≡ Some x
    → t1 ≡ t0 ++ flat_map f (take n xs) → t2 ≡ t1 ++ f x → t2 ≡ t0 ++ flat_map f (take (n + 1) xs)
flat_map-grows f xs n x t0 t1 t2 here so_far more =
    before t0 t1 t2 (flat_map f (take n xs)) (f x) so_far more ∙ ap (λ t. t0 ++ t) (sym (rw add-one (flat_map-suc f xs n x here)))
