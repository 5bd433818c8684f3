-- What the tests of a first row tell of its step.
use Rattle.std.proofs.Common.{◌≡◌, ◌<◌, true, false, ◌&&◌, List, [], ◌∷◌, length, refl, arith, ℤ, pos, ◌*ℤ◌, ◌≤ℤ◌, ◌<ℤ◌}
use Rattle.std.specs.Prelude.{All}
use lib.Signed.{lt_z}
use Rattle.std.specs.List.{list_all}
use Rattle.std.proofs.lemmas.Int.{ints}
use Rattle.whole_algebra.specs.Rounding.{is_zero}
use Rattle.whole_algebra.specs.Matrices.{at}
use Rattle.whole_algebra.specs.Chains.{size_limit, is_too_large, step_of, stop, is_stop, beside}
use Rattle.whole_algebra.proofs.ChainLaws.{step_cases, positive}
use Rattle.chain_step.proofs.RowLaws.{not_large, apart_zero, not_low, not_high, clash, all_zero, zero_all}

-- ---- the cases of a row
pub small_goes_on : (row : List ℤ) → pos 0 <ℤ at row 0 → All (λ c. (c *ℤ c) ≤ℤ (at row 0 *ℤ size_limit)) (beside row) → is_stop (step_of row) ≡ false
small_goes_on [] above small = refl
small_goes_on (a ∷ b) above small =
    step_cases (λ s. is_stop s ≡ false) a b
    (λ _. refl)
    (λ _ low. absurd (not_low a above low))
    (λ _ large. absurd (clash (is_too_large a b) large (not_large a b small)))
    (λ _ _. refl)

pub zeros_go_on : (row : List ℤ) → All (λ z. z ≡ pos 0) row → is_stop (step_of row) ≡ false
zeros_go_on [] zeros = refl
zeros_go_on (a ∷ b) zeros =
    step_cases (λ s. is_stop s ≡ false) a b
    (λ _. refl)
    (λ some _. absurd (clash (is_zero a && list_all is_zero b) (all_zero (a ∷ b) zeros) some))
    (λ above _. absurd (apart_zero a (positive a above) (zeros 0 (pos 0) (omega arith))))
    (λ _ _. refl)

pub low_stops : (row : List ℤ) → 0 < length row → (pos 0 <ℤ at row 0 → ⊥) → (All (λ z. z ≡ pos 0) row → ⊥) → step_of row ≡ stop (at row 0)
low_stops [] some low none = absurd (omega arith)
low_stops (a ∷ b) some low none =
    step_cases (λ s. s ≡ stop a) a b
    (λ zeros. absurd (none (zero_all (a ∷ b) zeros)))
    (λ _ _. refl)
    (λ above _. absurd (not_high a low above))
    (λ above _. absurd (not_high a low above))

pub is_above : (a : ℤ) → lt_z (pos 0) a ≡ true → pos 0 <ℤ a
is_above a h = grind (arith, ints)

pub not_above : (a : ℤ) → lt_z (pos 0) a ≡ false → pos 0 <ℤ a → ⊥
not_above a h g = grind (arith, ints)
