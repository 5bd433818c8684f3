-- The matrices of a chain that hasn't stopped yet.
use Rattle.std.proofs.Common.{◌≡◌, ℕ, zero, suc, ◌-◌, ◌<◌, ◌≤◌, false, List, [], ◌∷◌, refl, subst, arith, ℤ}
use Rattle.whole_algebra.specs.Matrices.{IsTriangle}
use Rattle.whole_algebra.specs.Chains.{step_of, is_stop, next, matrix_after}
use Rattle.whole_algebra.specs.Grid.{row_at}
use Rattle.chain_step.specs.Step.{over_of}
use Rattle.chain_step.specs.declared.side.Side.{Side}
use Rattle.chain_step.proofs.RowSteps.{triangle_next}

-- one step more
pub after_more : (over : ℤ → List (List ℤ) → List (List ℤ)) (t : ℕ) (m : List (List ℤ)) → matrix_after over (suc t) m ≡ matrix_after over 1 (matrix_after over t m)
after_more over zero m = refl
after_more over (suc t) [] = refl
after_more over (suc t) (row ∷ rest) = after_more over t (next over row rest)

-- each step before step t goes on
abbrev pub GoesOn : Side → ℕ → List (List ℤ) → Type 0
GoesOn side t m = (s : ℕ) → s < t → is_stop (step_of (row_at (matrix_after (over_of side) s m) 0)) ≡ false

pub triangle_after : (side : Side) (t n : ℕ) (m : List (List ℤ)) → IsTriangle n m → t ≤ n → GoesOn side t m → IsTriangle (n - t) (matrix_after (over_of side) t m)
triangle_after side zero n m h le go = subst (λ k. IsTriangle k m) (none_off n) h
  where
    none_off : (n : ℕ) → n ≡ n - 0
    none_off n = omega arith
triangle_after side (suc t) zero m h le go = absurd (omega arith)
triangle_after side (suc t) (suc n) [] h le go = absurd h
triangle_after side (suc t) (suc n) (row ∷ rest) h le go =
    subst (λ k. IsTriangle k (matrix_after (over_of side) t (next (over_of side) row rest))) (one_off t n)
    (triangle_after side t n (next (over_of side) row rest) (triangle_next side n row rest h.0 h.1 (go 0 (omega arith))) (omega arith) (λ s lt. go (suc s) (omega arith)))
  where
    one_off : (t n : ℕ) → n - t ≡ suc n - suc t
    one_off t n = omega arith
