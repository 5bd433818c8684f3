-- Beside the diagonal the grid matrices of a limit with a light load are small.
use Rattle.std.proofs.Common.{◌≡◌, ◌≢◌, ℕ, suc, ◌+◌, ◌^◌, ◌<◌, inl, inr, Bool, List, [], ◌∷◌, length, refl, ◌∙◌, ap, arith, ℤ, pos, ◌+ℤ◌, ◌*ℤ◌, neg_ℤ, ◌≤ℤ◌}
use Rattle.std.specs.Prelude.{unsigned_abs}
use Rattle.std.proofs.lemmas.Bool.{cases_lt}
use Rattle.std.proofs.lemmas.Int.{ints}
use Rattle.whole_algebra.specs.Rounding.{floor_over}
use Rattle.whole_algebra.specs.Matrices.{at}
use Rattle.whole_algebra.specs.Grid.{row_at}
use Rattle.whole_algebra.proofs.Ring.{mul_zero}
use Rattle.whole_algebra.proofs.Order.{mul_le_mul, square_nonneg}
use Rattle.whole_algebra.proofs.Rounding.{floor_at_least, floor_at_most}
use Rattle.whole_algebra.proofs.Places.{lower_over-right, upper_over-right}
use Rattle.whole_algebra.proofs.Normal.{ring, x0, x1, x2, ◌⊗◌}
use Rattle.geo_model.specs.Limit.{SquareOf, IsLoad}
use Rattle.geo_model.specs.Network.{NetworkOf, IsNetwork}
use Rattle.limit_forms.specs.Form.{load_entry, form_of, full_entry}
use Rattle.limit_forms.specs.Grid.{order_of, scale_of, on_grid, grid_step, lower_grid, upper_grid, IsNear, IsLight}
use Rattle.limit_forms.proofs.Gram.{pair_within, load_pair}
use Rattle.limit_forms.proofs.Orders.{length-order_of, order_of-below, order_of-apart}
use Rattle.limit_forms.proofs.Sizes.{energy_limit, IsWithin, scaled_unknown, number_by}
use Rattle.limit_forms.proofs.GridEntries.{unknown_at, at-on_grid, past-scaled_packed, step_above}

-- the largest scaled entries of a light load
abbrev near_limit : ℤ
near_limit = pos 1000 *ℤ energy_limit

near_most : (network : NetworkOf) (alpha : ℤ) (squares : List SquareOf) (i : ℕ) → IsNetwork network → IsLoad (length network.unknowns) network.candidates alpha squares → IsNear network alpha squares → i < length network.unknowns
    → ((scale_of network.candidates alpha i *ℤ scale_of network.candidates alpha i) *ℤ load_entry squares i i) ≤ℤ near_limit
near_most network alpha squares i bounds limit near below =
    let s = scale_of network.candidates alpha i in
    let v = alpha *ℤ full_entry network.candidates i i in
    let scaled = scaled_unknown network alpha i bounds limit.alpha_low limit.alpha_high in
    let first = mul_le_mul (s *ℤ s) (load_entry squares i i) (pos 1000 *ℤ v) (square_nonneg s) (near i below) in
    let e : (s *ℤ s) *ℤ (pos 1000 *ℤ v) ≡ pos 1000 *ℤ ((s *ℤ s) *ℤ v) = ring ((x0 ⊗ x0) ⊗ (x1 ⊗ x2)) (x1 ⊗ ((x0 ⊗ x0) ⊗ x2)) (s ∷ pos 1000 ∷ v ∷ []) refl in
    let second = mul_le_mul (pos 1000) ((s *ℤ s) *ℤ v) energy_limit (omega (arith, ints)) scaled.most in
    joined ((s *ℤ s) *ℤ load_entry squares i i) ((s *ℤ s) *ℤ (pos 1000 *ℤ v)) (pos 1000 *ℤ ((s *ℤ s) *ℤ v)) near_limit first e second
  where
    joined : (a b c d : ℤ) → a ≤ℤ b → b ≡ c → c ≤ℤ d → a ≤ℤ d
    joined a b c d h e k = omega (arith, ints)

load_beside : (network : NetworkOf) (alpha : ℤ) (squares : List SquareOf) (i j : ℕ) → IsNetwork network → IsLoad (length network.unknowns) network.candidates alpha squares → IsLight network alpha squares
    → i < length network.unknowns → j < length network.unknowns → i ≢ j
    → (neg_ℤ near_limit ≤ℤ ((scale_of network.candidates alpha i *ℤ scale_of network.candidates alpha j) *ℤ load_entry squares i j)) × (((scale_of network.candidates alpha i *ℤ scale_of network.candidates alpha j) *ℤ load_entry squares i j) ≤ℤ near_limit)
load_beside network alpha squares i j bounds limit light row column apart =
    let s = scale_of network.candidates alpha i in
    let t = scale_of network.candidates alpha j in
    elim light [
      | inl near ↦
          pair_within s t (load_entry squares i i) (load_entry squares i j) (load_entry squares j j) near_limit
          (λ u. load_pair squares i j s u limit.beta_low) (near_most network alpha squares i bounds limit near row) (near_most network alpha squares j bounds limit near column)
      | inr none ↦ nothing ((s *ℤ t) *ℤ load_entry squares i j) (ap (λ z. (s *ℤ t) *ℤ z) (none i j apart) ∙ mul_zero (s *ℤ t))
    ]
  where
    nothing : (z : ℤ) → z ≡ pos 0 → (neg_ℤ near_limit ≤ℤ z) × (z ≤ℤ near_limit)
    nothing z e = (omega (arith, ints), omega (arith, ints))

-- the largest entries of the form beside its diagonal, on the grid and times 2 ^ 120
abbrev beside_limit : ℤ
beside_limit = energy_limit +ℤ near_limit

on_grid-beside : (network : NetworkOf) (plan : List Bool) (alpha : ℤ) (squares : List SquareOf) (i k : ℕ) → IsNetwork network → IsLoad (length network.unknowns) network.candidates alpha squares → IsLight network alpha squares
    → IsWithin beside_limit (at (row_at (on_grid network plan alpha squares) i) (suc k))
on_grid-beside network plan alpha squares i k bounds limit light =
    let n = length network.unknowns in
    let order = order_of n squares in
    let len = length-order_of n squares in
    let below = order_of-below n squares in
    elim (cases_lt (i + suc k) n) [
      | inl lt ↦
          rw (at-on_grid network plan alpha squares i (suc k) lt)
          (number_by network plan alpha squares (unknown_at order i) (unknown_at order (i + suc k)) near_limit bounds limit.alpha_low limit.alpha_high
          (load_beside network alpha squares (unknown_at order i) (unknown_at order (i + suc k)) bounds limit light (below i 0 (omega arith)) (below (i + suc k) 0 (omega arith))
          (order_of-apart n squares i (i + suc k) (omega arith) lt)))
      | inr le ↦
          rw (past-scaled_packed (scale_of network.candidates alpha) (form_of network.candidates plan alpha squares) order i (suc k) (omega arith)) (record { low = omega (arith, ints); high = omega (arith, ints) })
    ]

floor_small : (z : ℤ) → IsWithin beside_limit z → unsigned_abs (floor_over grid_step z) < 2 ^ 71
floor_small z w =
    let low = w.low in
    let high = w.high in
    by (floor_over grid_step z)
    (floor_at_least grid_step z (neg_ℤ (pos (2 ^ 70))) step_above (omega (arith, ints)))
    (floor_at_most grid_step z (pos (2 ^ 70)) step_above (omega (arith, ints)))
  where
    by : (f : ℤ) → neg_ℤ (pos (2 ^ 70)) ≤ℤ f → f ≤ℤ pos (2 ^ 70) → unsigned_abs f < 2 ^ 71
    by f a b = omega (arith, ints)

pub lower_beside : (network : NetworkOf) (plan : List Bool) (alpha : ℤ) (squares : List SquareOf) (i k : ℕ) → IsNetwork network → IsLoad (length network.unknowns) network.candidates alpha squares → IsLight network alpha squares
    → unsigned_abs (at (row_at (lower_grid network plan alpha squares) i) (suc k)) < 2 ^ 71
unfolding lower_grid
lower_beside network plan alpha squares i k bounds limit light =
    rw (lower_over-right grid_step (on_grid network plan alpha squares) i k step_above)
    (floor_small (at (row_at (on_grid network plan alpha squares) i) (suc k)) (on_grid-beside network plan alpha squares i k bounds limit light))

pub upper_beside : (network : NetworkOf) (plan : List Bool) (alpha : ℤ) (squares : List SquareOf) (i k : ℕ) → IsNetwork network → IsLoad (length network.unknowns) network.candidates alpha squares → IsLight network alpha squares
    → unsigned_abs (at (row_at (upper_grid network plan alpha squares) i) (suc k)) < 2 ^ 71
unfolding upper_grid
upper_beside network plan alpha squares i k bounds limit light =
    rw (upper_over-right grid_step (on_grid network plan alpha squares) i k step_above)
    (floor_small (at (row_at (on_grid network plan alpha squares) i) (suc k)) (on_grid-beside network plan alpha squares i k bounds limit light))
