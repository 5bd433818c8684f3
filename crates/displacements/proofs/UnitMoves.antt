-- Moves of one unknown that are taken back.
use Rattle.std.proofs.Common.{◌≡◌, ℕ, zero, suc, List, [], ◌∷◌, set, get_or, replicate, refl, sym, ap, ℤ, pos}
use Rattle.whole_algebra.proofs.Written.{at-zeros}

set_twice : (xs : List ℤ) (u : ℕ) (a b : ℤ) → get_or xs u b ≡ b → set (set xs u a) u b ≡ xs
set_twice [] u a b is = refl
set_twice (x ∷ xs) zero a b is = ap (λ (z : ℤ). z ∷ xs) (sym is)
set_twice (x ∷ xs) (suc u) a b is = ap (λ (zs : List ℤ). x ∷ zs) (set_twice xs u a b is)

-- a move that is taken back
pub moved_back : (n u : ℕ) → set (set (replicate n (pos 0)) u (pos 1)) u (pos 0) ≡ replicate n (pos 0)
moved_back n u = set_twice (replicate n (pos 0)) u (pos 1) (pos 0) (at-zeros n u)
