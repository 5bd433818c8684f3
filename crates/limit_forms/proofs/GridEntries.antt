-- The grid matrices entry by entry: their shape, sizes and heads.
use Rattle.std.proofs.Common.{◌≡◌, ℕ, zero, suc, ◌+◌, ◌^◌, ◌<◌, ◌≤◌, inl, inr, Bool, List, [], ◌∷◌, length, map, get_or, refl, ◌∙◌, ap, subst, arith, ℤ, pos, ◌+ℤ◌, ◌-ℤ◌, ◌*ℤ◌, neg_ℤ, ◌≤ℤ◌, ◌<ℤ◌}
use Rattle.std.specs.Prelude.{unsigned_abs}
use Rattle.std.proofs.lemmas.Bool.{cases_lt}
use Rattle.std.proofs.lemmas.Int.{ints}
use Rattle.std.proofs.lemmas.List.{length-map}
use Rattle.whole_algebra.specs.Rounding.{floor_over, gap_over, ceil_over}
use Rattle.whole_algebra.specs.Matrices.{at, scale, diagonal, slacks, lower_over, upper_over, IsTriangle}
use Rattle.whole_algebra.specs.Grid.{times_lists, scaled, packed, row_at}
use Rattle.whole_algebra.proofs.Rounding.{floor_at_least, floor_at_most, ceil_at_most, gap_range}
use Rattle.whole_algebra.proofs.Shapes.{at-off_sums_at_most, triangle-lower_over, triangle-upper_over}
use Rattle.whole_algebra.proofs.Places.{at-diagonal, lower_over-right, upper_over-right, lower_over-diagonal, upper_over-diagonal}
use Rattle.whole_algebra.proofs.DiagonalLaws.{slack_nonneg}
use Rattle.whole_algebra.proofs.GridLaws.{triangle-packed, triangle-scaled}
use Rattle.geo_model.specs.Limit.{SquareOf, IsLoad}
use Rattle.geo_model.specs.Network.{NetworkOf, IsNetwork}
use Rattle.limit_forms.specs.Form.{form_of}
use Rattle.limit_forms.specs.Grid.{order_of, scale_of, scales_of, form_matrix, on_grid, grid_step, lower_grid, upper_grid}
use Rattle.limit_forms.proofs.Orders.{length-order_of, order_of-below}
use Rattle.limit_forms.proofs.Sizes.{grid_number, IsWithin, form_limit, energy_limit, number_within, number_on_diagonal}

-- ---- a scaled matrix of numbered unknowns
-- the unknown at a place
abbrev pub unknown_at : List ℕ → ℕ → ℕ
unknown_at us i = get_or us i 0

row_value : (w : ℤ) (sc g : ℕ → ℤ) (us : List ℕ) (k : ℕ) → k < length us → at (scale w (times_lists (map sc us) (map g us))) k ≡ w *ℤ (sc (unknown_at us k) *ℤ g (unknown_at us k))
row_value w sc g [] k lt = absurd (omega arith)
row_value w sc g (u ∷ us) zero lt = refl
row_value w sc g (u ∷ us) (suc k) lt = row_value w sc g us k (omega arith)

row_past : (w : ℤ) (sc g : ℕ → ℤ) (us : List ℕ) (k : ℕ) → length us ≤ k → at (scale w (times_lists (map sc us) (map g us))) k ≡ pos 0
row_past w sc g [] k le = refl
row_past w sc g (u ∷ us) zero le = absurd (omega arith)
row_past w sc g (u ∷ us) (suc k) le = row_past w sc g us k (omega arith)

pub at-scaled_packed : (sc : ℕ → ℤ) (f : ℕ → ℕ → ℤ) (us : List ℕ) (i k : ℕ) → i + k < length us
    → at (row_at (scaled (map sc us) (packed f us)) i) k ≡ sc (unknown_at us i) *ℤ (sc (unknown_at us (i + k)) *ℤ f (unknown_at us i) (unknown_at us (i + k)))
at-scaled_packed sc f [] i k lt = absurd (omega arith)
at-scaled_packed sc f (u ∷ us) zero k lt =
    row_value (sc u) sc (f u) (u ∷ us) k (omega arith)
    ∙ ap (λ j. sc u *ℤ (sc (unknown_at (u ∷ us) j) *ℤ f u (unknown_at (u ∷ us) j))) (from_none k)
  where
    from_none : (k : ℕ) → k ≡ 0 + k
    from_none k = omega arith
at-scaled_packed sc f (u ∷ us) (suc i) k lt =
    at-scaled_packed sc f us i k (omega arith)
    ∙ ap (λ j. sc (unknown_at us i) *ℤ (sc (unknown_at (u ∷ us) j) *ℤ f (unknown_at us i) (unknown_at (u ∷ us) j))) (one_more i k)
  where
    one_more : (i k : ℕ) → suc (i + k) ≡ suc i + k
    one_more i k = omega arith

pub past-scaled_packed : (sc : ℕ → ℤ) (f : ℕ → ℕ → ℤ) (us : List ℕ) (i k : ℕ) → length us ≤ i + k → at (row_at (scaled (map sc us) (packed f us)) i) k ≡ pos 0
past-scaled_packed sc f [] i k le = refl
past-scaled_packed sc f (u ∷ us) zero k le = row_past (sc u) sc (f u) (u ∷ us) k (omega arith)
past-scaled_packed sc f (u ∷ us) (suc i) k le = past-scaled_packed sc f us i k (omega arith)

-- ---- the form on the grid
pub at-on_grid : (network : NetworkOf) (plan : List Bool) (alpha : ℤ) (squares : List SquareOf) (i k : ℕ) → i + k < length network.unknowns
    → at (row_at (on_grid network plan alpha squares) i) k
    ≡ grid_number network plan alpha squares (unknown_at (order_of (length network.unknowns) squares) i) (unknown_at (order_of (length network.unknowns) squares) (i + k))
at-on_grid network plan alpha squares i k lt =
    let len = length-order_of (length network.unknowns) squares in
    at-scaled_packed (scale_of network.candidates alpha) (form_of network.candidates plan alpha squares) (order_of (length network.unknowns) squares) i k (omega arith)

pub on_grid-triangle : (network : NetworkOf) (plan : List Bool) (alpha : ℤ) (squares : List SquareOf) → IsTriangle (length network.unknowns) (on_grid network plan alpha squares)
on_grid-triangle network plan alpha squares =
    let order = order_of (length network.unknowns) squares in
    subst (λ n. IsTriangle n (on_grid network plan alpha squares)) (length-order_of (length network.unknowns) squares)
    (triangle-scaled (length order) (scales_of network alpha squares) (form_matrix network plan alpha squares) (length-map order (scale_of network.candidates alpha)) (triangle-packed (form_of network.candidates plan alpha squares) order))

pub on_grid-within : (network : NetworkOf) (plan : List Bool) (alpha : ℤ) (squares : List SquareOf) (i k : ℕ) → IsNetwork network → IsLoad (length network.unknowns) network.candidates alpha squares
    → IsWithin form_limit (at (row_at (on_grid network plan alpha squares) i) k)
on_grid-within network plan alpha squares i k bounds limit =
    let n = length network.unknowns in
    let order = order_of n squares in
    let len = length-order_of n squares in
    let below = order_of-below n squares in
    elim (cases_lt (i + k) n) [
      | inl lt ↦
          rw (at-on_grid network plan alpha squares i k lt)
          (number_within network plan alpha squares (unknown_at order i) (unknown_at order (i + k)) bounds limit (below i 0 (omega arith)) (below (i + k) 0 (omega arith)))
      | inr le ↦
          rw (past-scaled_packed (scale_of network.candidates alpha) (form_of network.candidates plan alpha squares) order i k (omega arith)) (record { low = omega (arith, ints); high = omega (arith, ints) })
    ]

pub on_grid-head : (network : NetworkOf) (plan : List Bool) (alpha : ℤ) (squares : List SquareOf) (i : ℕ) → IsNetwork network → IsLoad (length network.unknowns) network.candidates alpha squares
    → at (row_at (on_grid network plan alpha squares) i) 0 ≤ℤ energy_limit
on_grid-head network plan alpha squares i bounds limit =
    let n = length network.unknowns in
    let order = order_of n squares in
    let len = length-order_of n squares in
    elim (cases_lt (i + 0) n) [
      | inl lt ↦
          let same : unknown_at order (i + 0) ≡ unknown_at order i = ap (λ j. unknown_at order j) (none_more i) in
          let e : at (row_at (on_grid network plan alpha squares) i) 0 ≡ grid_number network plan alpha squares (unknown_at order i) (unknown_at order i) =
          at-on_grid network plan alpha squares i 0 lt ∙ ap (λ v. grid_number network plan alpha squares (unknown_at order i) v) same in
          rw e (number_on_diagonal network plan alpha squares (unknown_at order i) bounds limit)
      | inr le ↦
          rw (past-scaled_packed (scale_of network.candidates alpha) (form_of network.candidates plan alpha squares) order i 0 (omega arith)) (omega (arith, ints))
    ]
  where
    none_more : (i : ℕ) → i + 0 ≡ i
    none_more i = omega arith

-- ---- rounded
pub step_above : pos 0 <ℤ grid_step
step_above = omega (arith, ints)

-- the largest entries on the grid
abbrev pub entry_limit : ℤ
entry_limit = pos (2 ^ 108 + 2 ^ 60)

pub floor_within : (z : ℤ) → IsWithin form_limit z → IsWithin entry_limit (floor_over grid_step z)
floor_within z w =
    let low = w.low in
    let high = w.high in record {
      low = floor_at_least grid_step z (neg_ℤ entry_limit) step_above (omega (arith, ints));
      high = floor_at_most grid_step z entry_limit step_above (omega (arith, ints));
    }

-- a row's slack
pub slack_range : (n : ℕ) (m : List (List ℤ)) (i : ℕ) → IsTriangle n m → n ≤ 64 → (pos 0 ≤ℤ at (slacks grid_step m) i) × (at (slacks grid_step m) i ≤ℤ pos 64)
slack_range n m i t le =
    let most = at-off_sums_at_most (gap_over grid_step) (λ z. (gap_range grid_step z).1) n m i t in
    (slack_nonneg grid_step m i step_above, omega (arith, ints))

-- numbers of at most that size and a slack are small
small : (z : ℤ) → neg_ℤ (pos (2 ^ 108 + 2 ^ 60 + 64)) ≤ℤ z → z ≤ℤ pos (2 ^ 108 + 2 ^ 60 + 65) → unsigned_abs z < 2 ^ 109
small z low high = omega (arith, ints)

pub lower_small : (network : NetworkOf) (plan : List Bool) (alpha : ℤ) (squares : List SquareOf) (i k : ℕ) → IsNetwork network → IsLoad (length network.unknowns) network.candidates alpha squares
    → unsigned_abs (at (row_at (lower_grid network plan alpha squares) i) k) < 2 ^ 109
unfolding lower_grid
lower_small network plan alpha squares i zero bounds limit =
    let m = on_grid network plan alpha squares in
    let f = floor_within (at (row_at m i) 0) (on_grid-within network plan alpha squares i 0 bounds limit) in
    let s = slack_range (length network.unknowns) m i (on_grid-triangle network plan alpha squares) bounds.unknowns in
    rw (lower_over-diagonal grid_step m i step_above) (by (floor_over grid_step (at (row_at m i) 0)) (at (slacks grid_step m) i) f.low f.high s.0 s.1)
  where
    by : (f s : ℤ) → neg_ℤ entry_limit ≤ℤ f → f ≤ℤ entry_limit → pos 0 ≤ℤ s → s ≤ℤ pos 64 → unsigned_abs (f -ℤ s) < 2 ^ 109
    by f s a b c d = small (f -ℤ s) (omega (arith, ints)) (omega (arith, ints))
lower_small network plan alpha squares i (suc k) bounds limit =
    let m = on_grid network plan alpha squares in
    let f = floor_within (at (row_at m i) (suc k)) (on_grid-within network plan alpha squares i (suc k) bounds limit) in
    rw (lower_over-right grid_step m i k step_above) (by (floor_over grid_step (at (row_at m i) (suc k))) f.low f.high)
  where
    by : (f : ℤ) → neg_ℤ entry_limit ≤ℤ f → f ≤ℤ entry_limit → unsigned_abs f < 2 ^ 109
    by f a b = small f (omega (arith, ints)) (omega (arith, ints))

pub upper_small : (network : NetworkOf) (plan : List Bool) (alpha : ℤ) (squares : List SquareOf) (i k : ℕ) → IsNetwork network → IsLoad (length network.unknowns) network.candidates alpha squares
    → unsigned_abs (at (row_at (upper_grid network plan alpha squares) i) k) < 2 ^ 109
unfolding upper_grid
upper_small network plan alpha squares i zero bounds limit =
    let m = on_grid network plan alpha squares in
    let f = floor_within (at (row_at m i) 0) (on_grid-within network plan alpha squares i 0 bounds limit) in
    let g = gap_range grid_step (at (row_at m i) 0) in
    let s = slack_range (length network.unknowns) m i (on_grid-triangle network plan alpha squares) bounds.unknowns in
    rw (upper_over-diagonal grid_step m i step_above) (by (floor_over grid_step (at (row_at m i) 0)) (gap_over grid_step (at (row_at m i) 0)) (at (slacks grid_step m) i) f.low f.high g.0 g.1 s.0 s.1)
  where
    by : (f g s : ℤ) → neg_ℤ entry_limit ≤ℤ f → f ≤ℤ entry_limit → pos 0 ≤ℤ g → g ≤ℤ pos 1 → pos 0 ≤ℤ s → s ≤ℤ pos 64 → unsigned_abs ((f +ℤ g) +ℤ s) < 2 ^ 109
    by f g s a b p q c d = small ((f +ℤ g) +ℤ s) (omega (arith, ints)) (omega (arith, ints))
upper_small network plan alpha squares i (suc k) bounds limit =
    let m = on_grid network plan alpha squares in
    let f = floor_within (at (row_at m i) (suc k)) (on_grid-within network plan alpha squares i (suc k) bounds limit) in
    rw (upper_over-right grid_step m i k step_above) (by (floor_over grid_step (at (row_at m i) (suc k))) f.low f.high)
  where
    by : (f : ℤ) → neg_ℤ entry_limit ≤ℤ f → f ≤ℤ entry_limit → unsigned_abs f < 2 ^ 109
    by f a b = small f (omega (arith, ints)) (omega (arith, ints))

pub upper_heads : (network : NetworkOf) (plan : List Bool) (alpha : ℤ) (squares : List SquareOf) (i : ℕ) → IsNetwork network → IsLoad (length network.unknowns) network.candidates alpha squares
    → at (diagonal (upper_grid network plan alpha squares)) i ≤ℤ pos (2 ^ 60 + 64)
unfolding upper_grid
upper_heads network plan alpha squares i bounds limit =
    let m = on_grid network plan alpha squares in
    let h = on_grid-head network plan alpha squares i bounds limit in
    let c = ceil_at_most grid_step (at (row_at m i) 0) (pos (2 ^ 60)) step_above (omega (arith, ints)) in
    let s = slack_range (length network.unknowns) m i (on_grid-triangle network plan alpha squares) bounds.unknowns in
    rw (at-diagonal (upper_over grid_step m) i ∙ upper_over-diagonal grid_step m i step_above) (by (ceil_over grid_step (at (row_at m i) 0)) (at (slacks grid_step m) i) c s.1)
  where
    by : (c s : ℤ) → c ≤ℤ pos (2 ^ 60) → s ≤ℤ pos 64 → (c +ℤ s) ≤ℤ pos (2 ^ 60 + 64)
    by c s h k = omega (arith, ints)

pub lower_heads : (network : NetworkOf) (plan : List Bool) (alpha : ℤ) (squares : List SquareOf) (i : ℕ) → IsNetwork network → IsLoad (length network.unknowns) network.candidates alpha squares
    → at (diagonal (lower_grid network plan alpha squares)) i ≤ℤ pos (2 ^ 60 + 64)
unfolding lower_grid
lower_heads network plan alpha squares i bounds limit =
    let m = on_grid network plan alpha squares in
    let h = on_grid-head network plan alpha squares i bounds limit in
    let f = floor_at_most grid_step (at (row_at m i) 0) (pos (2 ^ 60)) step_above (omega (arith, ints)) in
    let s = slack_range (length network.unknowns) m i (on_grid-triangle network plan alpha squares) bounds.unknowns in
    rw (at-diagonal (lower_over grid_step m) i ∙ lower_over-diagonal grid_step m i step_above) (by (floor_over grid_step (at (row_at m i) 0)) (at (slacks grid_step m) i) f s.0)
  where
    by : (f s : ℤ) → f ≤ℤ pos (2 ^ 60) → pos 0 ≤ℤ s → (f -ℤ s) ≤ℤ pos (2 ^ 60 + 64)
    by f s h k = omega (arith, ints)

pub lower_triangle : (network : NetworkOf) (plan : List Bool) (alpha : ℤ) (squares : List SquareOf) → IsTriangle (length network.unknowns) (lower_grid network plan alpha squares)
unfolding lower_grid
lower_triangle network plan alpha squares = triangle-lower_over grid_step (length network.unknowns) (on_grid network plan alpha squares) (on_grid-triangle network plan alpha squares)

pub upper_triangle : (network : NetworkOf) (plan : List Bool) (alpha : ℤ) (squares : List SquareOf) → IsTriangle (length network.unknowns) (upper_grid network plan alpha squares)
unfolding upper_grid
upper_triangle network plan alpha squares = triangle-upper_over grid_step (length network.unknowns) (on_grid network plan alpha squares) (on_grid-triangle network plan alpha squares)
