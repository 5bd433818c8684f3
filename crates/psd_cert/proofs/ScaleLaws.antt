-- The scale of a step from a first row.
use Rattle.std.proofs.Common.{◌≡◌, suc, ◌<◌, true, false, List, [], ◌∷◌, length, refl, arith, inl, inr, ℤ, pos, ◌<ℤ◌, int_lt}
use Rattle.std.specs.Prelude.{All}
use Rattle.std.specs.List.{list_all}
use Rattle.std.proofs.lemmas.Int.{ints}
use Rattle.whole_algebra.specs.Rounding.{is_zero}
use Rattle.whole_algebra.specs.Matrices.{at}
use Rattle.psd_cert.specs.LeftOver.{IsScale}
use Rattle.chain_step.proofs.RowLaws.{zero_is, both, all_zero, zero_all}

-- ---- the three cases of the code
pub scale_of_pivot : (row : List ℤ) → 0 < length row → int_lt (pos 0) (at row 0) ≡ true → IsScale row (at row 0)
scale_of_pivot [] lt h = absurd (omega arith)
scale_of_pivot (a ∷ b) lt h = inl (omega (arith, ints), refl)

pub scale_of_zeros : (row : List ℤ) → 0 < length row → All (λ z. z ≡ pos 0) row → IsScale row (pos 1)
scale_of_zeros [] lt h = absurd (omega arith)
scale_of_zeros (a ∷ b) lt h = inr (h 0 (pos 0) (omega arith), all_zero b (λ k d lt. h (suc k) d (omega arith)), refl)

pub no_scale : (row : List ℤ) → int_lt (pos 0) (at row 0) ≡ false → (All (λ z. z ≡ pos 0) row → ⊥) → (s : ℤ) → IsScale row s → ⊥
no_scale [] h none s g = absurd g
no_scale (a ∷ b) h none s g =
    elim g [
      | inl p ↦ apart a p.0 h
      | inr q ↦ none (zero_all (a ∷ b) (both (is_zero a) (list_all is_zero b) (zero_is a q.0) q.1))
    ]
  where
    apart : (a : ℤ) → pos 0 <ℤ a → int_lt (pos 0) a ≡ false → ⊥
    apart a h e = omega (arith, ints)
