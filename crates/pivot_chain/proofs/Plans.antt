-- Plans that are changed at one place.
use Rattle.std.proofs.Common.{◌≡◌, ℕ, zero, suc, ◌<◌, Bool, List, [], ◌∷◌, length, refl, sym, ap, ap₂, arith, Some, slice_get}
use Rattle.std.specs.Prelude.{slice_set}

-- an entry that is written again
pub set_same : (plan : List Bool) (i : ℕ) (b : Bool) → slice_get plan i ≡ Some b → plan ≡ slice_set plan i b
set_same [] i b e = refl
set_same (x ∷ plan) zero b e = ap (λ t. t ∷ plan) (same x b e)
  where
    same : (x b : Bool) → Some x ≡ Some b → x ≡ b
    same x b e = cc
set_same (x ∷ plan) (suc i) b e = ap (λ t. x ∷ t) (set_same plan i b e)

-- an entry that is set and then set back
pub set_back : (plan : List Bool) (i : ℕ) (b other : Bool) → slice_get plan i ≡ Some b → slice_set (slice_set plan i other) i b ≡ plan
set_back [] i b other is = refl
set_back (x ∷ plan) zero b other is = let same : x ≡ b = cc in ap (λ v. v ∷ plan) (sym same)
set_back (x ∷ plan) (suc i) b other is = ap (λ rest. x ∷ rest) (set_back plan i b other is)

pub same_plan : (first second : List Bool) → length first ≡ length second → ((j : ℕ) → j < length first → slice_get first j ≡ slice_get second j) → first ≡ second
same_plan [] [] e h = refl
same_plan [] (y ∷ second) e h = absurd (omega arith)
same_plan (x ∷ first) [] e h = absurd (omega arith)
same_plan (x ∷ first) (y ∷ second) e h = ap₂ ◌∷◌ (same x y (h zero (omega arith))) (same_plan first second (omega arith) (λ j lt. h (suc j) (omega arith)))
  where
    same : (x y : Bool) → Some x ≡ Some y → x ≡ y
    same x y e = cc
