-- The matrices of a grid's chains, and its first rows.
use Rattle.std.proofs.Common.{◌≡◌, ℕ, ◌+◌, ◌^◌, ◌<◌, ◌≤◌, inl, inr, Bool, List, length, sym, ◌∙◌, ap, arith, ℤ, pos, ◌-ℤ◌, ◌*ℤ◌, ◌<ℤ◌}
use Rattle.std.proofs.lemmas.Bool.{cases_lt}
use Rattle.std.proofs.lemmas.Int.{ints}
use Rattle.std.proofs.lemmas.Option.{slice_get-get_or}
use Rattle.whole_algebra.specs.Matrices.{at, diagonal, lower_over, upper_over}
use Rattle.whole_algebra.specs.Chains.{matrix_after}
use Rattle.whole_algebra.specs.Grid.{row_at, SameFirstRows}
use Rattle.whole_algebra.proofs.DiagonalLaws.{lower_diagonals, upper_diagonals}
use Rattle.whole_algebra.proofs.FirstRows.{rows_by_places, lower_over-first_rows, upper_over-first_rows}
use Rattle.geo_model.specs.Limit.{SquareOf, IsLoad}
use Rattle.geo_model.specs.Network.{NetworkOf, IsNetwork}
use Rattle.limit_forms.specs.Form.{load_entry, form_of}
use Rattle.limit_forms.specs.Grid.{order_of, scale_of, on_grid, grid_step, lower_grid, upper_grid, AgreeOnFirst}
use Rattle.limit_forms.proofs.Orders.{length-order_of}
use Rattle.limit_forms.proofs.GridEntries.{unknown_at, at-on_grid, past-scaled_packed, on_grid-triangle, step_above, lower_heads, upper_heads, upper_triangle}

-- ---- chains
pub lower_chain_low : (network : NetworkOf) (plan : List Bool) (alpha : ℤ) (squares : List SquareOf) (t i : ℕ) → IsNetwork network → IsLoad (length network.unknowns) network.candidates alpha squares
    → at (diagonal (matrix_after lower_over t (lower_grid network plan alpha squares))) i <ℤ pos (2 ^ 61)
lower_chain_low network plan alpha squares t i bounds limit =
    let h = lower_diagonals t (lower_grid network plan alpha squares) (pos (2 ^ 60 + 64)) (λ k. lower_heads network plan alpha squares k bounds limit) i in
    omega (arith, ints)

pub upper_chain_low : (network : NetworkOf) (plan : List Bool) (alpha : ℤ) (squares : List SquareOf) (t i : ℕ) → IsNetwork network → IsLoad (length network.unknowns) network.candidates alpha squares
    → t ≤ length network.unknowns → at (diagonal (matrix_after upper_over t (upper_grid network plan alpha squares))) i <ℤ pos (2 ^ 61)
upper_chain_low network plan alpha squares t i bounds limit steps =
    let few = bounds.unknowns in
    let h = upper_diagonals (length network.unknowns) t (upper_grid network plan alpha squares) (pos (2 ^ 60 + 64)) (upper_triangle network plan alpha squares) few (λ k. upper_heads network plan alpha squares k bounds limit) i in
    omega (arith, ints)

-- ---- the first rows under two plans
on_grid-places : (network : NetworkOf) (plan other : List Bool) (alpha : ℤ) (squares : List SquareOf) (count i k : ℕ) → AgreeOnFirst count network plan other squares → i < count → i < length network.unknowns
    → at (row_at (on_grid network plan alpha squares) i) k ≡ at (row_at (on_grid network other alpha squares) i) k
on_grid-places network plan other alpha squares count i k agree lt inside =
    let n = length network.unknowns in
    let order = order_of n squares in
    let len = length-order_of n squares in
    let scale = scale_of network.candidates alpha in
    elim (cases_lt (i + k) n) [
      | inl within ↦
          at-on_grid network plan alpha squares i k within
          ∙ ap (λ z. scale (unknown_at order i) *ℤ (scale (unknown_at order (i + k)) *ℤ (alpha *ℤ z -ℤ load_entry squares (unknown_at order i) (unknown_at order (i + k)))))
          (agree i (unknown_at order i) (unknown_at order (i + k)) lt (slice_get-get_or order i 0 (omega arith)))
          ∙ sym (at-on_grid network other alpha squares i k within)
      | inr past ↦
          past-scaled_packed scale (form_of network.candidates plan alpha squares) order i k (omega arith)
          ∙ sym (past-scaled_packed scale (form_of network.candidates other alpha squares) order i k (omega arith))
    ]

on_grid-first_rows : (network : NetworkOf) (plan other : List Bool) (alpha : ℤ) (squares : List SquareOf) (count : ℕ) → AgreeOnFirst count network plan other squares
    → SameFirstRows count (on_grid network plan alpha squares) (on_grid network other alpha squares)
on_grid-first_rows network plan other alpha squares count agree i lt =
    rows_by_places (length network.unknowns) (on_grid network plan alpha squares) (on_grid network other alpha squares) i
    (on_grid-triangle network plan alpha squares) (on_grid-triangle network other alpha squares)
    (λ inside k. on_grid-places network plan other alpha squares count i k agree lt inside)

pub lower_first_rows : (network : NetworkOf) (plan other : List Bool) (alpha : ℤ) (squares : List SquareOf) (count : ℕ) → AgreeOnFirst count network plan other squares
    → SameFirstRows count (lower_grid network plan alpha squares) (lower_grid network other alpha squares)
unfolding lower_grid
lower_first_rows network plan other alpha squares count agree =
    lower_over-first_rows grid_step (length network.unknowns) count (on_grid network plan alpha squares) (on_grid network other alpha squares) step_above
    (on_grid-triangle network plan alpha squares) (on_grid-triangle network other alpha squares) (on_grid-first_rows network plan other alpha squares count agree)

pub upper_first_rows : (network : NetworkOf) (plan other : List Bool) (alpha : ℤ) (squares : List SquareOf) (count : ℕ) → AgreeOnFirst count network plan other squares
    → SameFirstRows count (upper_grid network plan alpha squares) (upper_grid network other alpha squares)
unfolding upper_grid
upper_first_rows network plan other alpha squares count agree =
    upper_over-first_rows grid_step (length network.unknowns) count (on_grid network plan alpha squares) (on_grid network other alpha squares) step_above
    (on_grid-triangle network plan alpha squares) (on_grid-triangle network other alpha squares) (on_grid-first_rows network plan other alpha squares count agree)
