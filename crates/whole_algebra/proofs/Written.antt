-- Numbers that are written and read back, and lists of numbers that are written place by place.
use Rattle.std.proofs.Common.{◌≡◌, ℕ, zero, suc, ◌+◌, ◌^◌, ◌<◌, ◌≤◌, List, length, set, replicate, refl, ◌∙◌, sym, ap, arith, inl, inr, FitsSigned, to_z, of_z, ℤ, pos, unsigned_abs}
use mir.Syntax.{w128}
use Rattle.std.proofs.lemmas.Int.{fits_signed_from_abs, to_z-of_z}
use Rattle.std.proofs.lemmas.Bool.{cases_lt}
use Rattle.std.proofs.lemmas.List.{get_or-set_same, get_or-set_other}
use Rattle.whole_algebra.specs.Matrices.{at}

-- a number of at most this size is what its bits say
pub read_back : (z : ℤ) (n : ℕ) → unsigned_abs z ≤ n → n < 2 ^ 127 → to_z w128 (of_z w128 z) ≡ z
read_back z n size few = let fits : FitsSigned w128 z = fits_signed_from_abs w128 z (omega arith) in to_z-of_z w128 z fits

-- one place more of a row is written, right of the diagonal
pub written : (row : List ℤ) (f : ℕ → ℤ) (m : ℕ) (number : ℤ) → m < length row → number ≡ f m → ((i : ℕ) → 1 ≤ i → i < m → at row i ≡ f i)
    → (i : ℕ) → 1 ≤ i → i < m + 1 → at (set row m number) i ≡ f i
written row f m number inside is so_far i one lt =
    elim (cases_lt i m) [
      | inl less ↦ get_or-set_other row m i number (pos 0) (λ e. absurd (omega arith)) ∙ so_far i one less
      | inr le ↦ (let here : i ≡ m = omega arith in
          ap (λ j. at (set row m number) j) here ∙ get_or-set_same row m number (pos 0) inside ∙ is ∙ ap f (sym here))
    ]

-- a list of zeros, read at any place
pub at-zeros : (n i : ℕ) → at (replicate n (pos 0)) i ≡ pos 0
at-zeros zero i = refl
at-zeros (suc n) zero = refl
at-zeros (suc n) (suc i) = at-zeros n i
