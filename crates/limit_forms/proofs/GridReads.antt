-- What is read of a grid: the unknown at a place, and the exponent of an unknown.
use Rattle.std.proofs.Common.{◌≡◌, ℕ, ◌+◌, ◌-◌, ◌<◌, ◌≤◌, Bool, List, length, map, Some, sym, ◌∙◌, ap, ap₂, subst, arith, ℤ, pos, ◌+ℤ◌, ◌-ℤ◌, neg_ℤ, ◌≤ℤ◌}
use Rattle.std.specs.Prelude.{slice_get, unsigned_abs}
use Rattle.std.specs.List.{range_with_len}
use Rattle.std.proofs.lemmas.Int.{ints}
use Rattle.std.proofs.lemmas.Option.{get_or_from_slice_get}
use Rattle.std.proofs.lemmas.List.FromFn.{get_or-map-range_with_len}
use Rattle.whole_algebra.specs.Matrices.{at}
use Rattle.whole_algebra.specs.Grid.{row_at}
use Rattle.geo_model.specs.Limit.{SquareOf}
use Rattle.geo_model.specs.Network.{NetworkOf, IsNetwork}
use Rattle.limit_forms.specs.Grid.{order_of, exponent_at, GridOf, grid_of, on_grid}
use Rattle.limit_forms.proofs.Orders.{length-order_of, order_of-below}
use Rattle.limit_forms.proofs.Sizes.{scaled_unknown, grid_number}
use Rattle.limit_forms.proofs.GridEntries.{unknown_at, at-on_grid}

pub length-grid_of : (network : NetworkOf) (alpha : ℤ) (squares : List SquareOf) (grid : GridOf) → grid ≡ grid_of network alpha squares → length grid.order ≡ length network.unknowns
unfolding grid_of
length-grid_of network alpha squares grid is = ap (λ (g : GridOf). length g.order) is ∙ length-order_of (length network.unknowns) squares

pub record IsRead (network : NetworkOf) (alpha : ℤ) (squares : List SquareOf) (place unknown : ℕ) : Type 0 where
  pub is : unknown_at (order_of (length network.unknowns) squares) place ≡ unknown
  pub below : unknown < length network.unknowns

pub read_unknown : (network : NetworkOf) (alpha : ℤ) (squares : List SquareOf) (grid : GridOf) (place unknown : ℕ) → grid ≡ grid_of network alpha squares → place < length network.unknowns
    → slice_get grid.order place ≡ Some unknown → IsRead network alpha squares place unknown
unfolding grid_of
read_unknown network alpha squares grid place unknown is inside got =
    let n = length network.unknowns in
    let order = order_of n squares in
    let long = length-order_of n squares in
    let here = get_or_from_slice_get order place unknown 0 (subst (λ (g : GridOf). slice_get g.order place ≡ Some unknown) is got) in
    record { is = here; below = subst (λ u. u < n) here (order_of-below n squares place 0 (omega arith)) }

pub read_exponent : (network : NetworkOf) (alpha : ℤ) (squares : List SquareOf) (grid : GridOf) (unknown : ℕ) (e : ℤ) → grid ≡ grid_of network alpha squares → unknown < length network.unknowns
    → slice_get grid.exponents unknown ≡ Some e → e ≡ exponent_at network.candidates alpha unknown
unfolding grid_of
read_exponent network alpha squares grid unknown e is below got =
    let n = length network.unknowns in
    let exponents = map (exponent_at network.candidates alpha) (range_with_len 0 n) in
    sym (get_or_from_slice_get exponents unknown e (pos 0) (subst (λ (g : GridOf). slice_get g.exponents unknown ≡ Some e) is got))
    ∙ get_or-map-range_with_len (exponent_at network.candidates alpha) 0 n unknown unknown (pos 0) below (omega arith)

-- two exponents as they are read, with the powers of their scales
pub record IsShift (network : NetworkOf) (alpha : ℤ) (i j : ℕ) (e : ℤ) : Type 0 where
  pub sum : pos 120 ≡ e +ℤ pos (unsigned_abs (pos 60 -ℤ exponent_at network.candidates alpha i) + unsigned_abs (pos 60 -ℤ exponent_at network.candidates alpha j))
  pub low : neg_ℤ (pos 60) ≤ℤ e
  pub high : e ≤ℤ pos 60

pub read_shift : (network : NetworkOf) (alpha : ℤ) (i j : ℕ) (e f : ℤ) → IsNetwork network → pos 1 ≤ℤ alpha → alpha ≤ℤ pos 1000000
    → e ≡ exponent_at network.candidates alpha i → f ≡ exponent_at network.candidates alpha j → IsShift network alpha i j (e +ℤ f)
read_shift network alpha i j e f bounds low high first second =
    let s = (scaled_unknown network alpha i bounds low high).scale in
    let t = (scaled_unknown network alpha j bounds low high).scale in
    let all = by e f (exponent_at network.candidates alpha i) (exponent_at network.candidates alpha j) (unsigned_abs (pos 60 -ℤ exponent_at network.candidates alpha i)) (unsigned_abs (pos 60 -ℤ exponent_at network.candidates alpha j))
    first second s.is s.low s.high t.is t.low t.high in
    record { sum = all.0; low = all.1; high = all.2 }
  where
    by : (e f a b : ℤ) (u v : ℕ) → e ≡ a → f ≡ b → pos u ≡ pos 60 -ℤ a → 40 ≤ u → u ≤ 89 → pos v ≡ pos 60 -ℤ b → 40 ≤ v → v ≤ 89
        → let total : ℕ = u + v in (pos 120 ≡ (e +ℤ f) +ℤ pos total) × (neg_ℤ (pos 60) ≤ℤ (e +ℤ f)) × ((e +ℤ f) ≤ℤ pos 60)
    by e f a b u v h k p q r s t w = (omega (arith, ints), omega (arith, ints), omega (arith, ints))

-- the entry on the grid of two unknowns that were read
pub read_number : (network : NetworkOf) (plan : List Bool) (alpha : ℤ) (squares : List SquareOf) (row column i j : ℕ) → row ≤ column → column < length network.unknowns
    → IsRead network alpha squares row i → IsRead network alpha squares column j
    → at (row_at (on_grid network plan alpha squares) row) (column - row) ≡ grid_number network plan alpha squares i j
read_number network plan alpha squares row column i j le lt first second =
    at-on_grid network plan alpha squares row (column - row) (omega arith)
    ∙ ap₂ (λ a b. grid_number network plan alpha squares a b) first.is
    (ap (λ p. unknown_at (order_of (length network.unknowns) squares) p) (back row column le) ∙ second.is)
  where
    back : (row column : ℕ) → row ≤ column → row + (column - row) ≡ column
    back row column le = omega arith
