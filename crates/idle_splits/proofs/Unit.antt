-- Displacements by 1 in one unknown, and that the cut of a displacement depends on its entries
-- alone.
use Rattle.std.proofs.Common.{◌≡◌, ◌<◌, ◌^◌, ℕ, min, List, get_or, length, inl, inr, sym, ap, arith}
use Rattle.std.proofs.lemmas.Bool.{cases_eq}
use Rattle.std.proofs.lemmas.List.{length-map}
use Rattle.std.proofs.lemmas.List.Elements.{All-map}
use Rattle.whole_algebra.specs.Matrices.{at}
use Rattle.geo_model.specs.Row.{Displaced, IsNarrow, unit_at}
use Rattle.geo_model.specs.Limit.{SquareOf, LimitOf, load}
use Rattle.geo_model.specs.Network.{NetworkOf, IsLimit}
use Rattle.geo_model.proofs.SizeLemmas.{load-small}
use Rattle.normal_matrix.proofs.SumSteps.{unit_at-same, unit_at-other, unit_at-list}
use Rattle.cut_pool.specs.Cut.{cut_shift, load_number, energy_number, rounded_up, bound_of, coefficient_of, cover_of}
use Rattle.cut_pool.proofs.Shifts.{cut_shift-least}
use Rattle.dual_bound.specs.Shares.{IsSmallCover}
use Rattle.idle_splits.specs.UnitCuts.{unit_move}

-- ---- the same entries
pub load-same : (squares : List SquareOf) (x y : Displaced) → ((i : ℕ) → x i ≡ y i) → load squares x ≡ load squares y
load-same squares x y same = ap (load squares) (λ i k. same k i)

-- the covering inequality of a displacement depends on its entries alone
pub cover_of-same : (network : NetworkOf) (limit : LimitOf) (x y : Displaced) → ((i : ℕ) → x i ≡ y i) → cover_of network limit x ≡ cover_of network limit y
cover_of-same network limit x y same = ap (cover_of network limit) (λ i k. same k i)

-- ---- one entry of 1
-- the list that moves one unknown by 1 is that displacement
pub unit_move_at : (n u : ℕ) → u < n → (i : ℕ) → at (unit_move n u) i ≡ unit_at u i
unit_move_at n u inside i = sym (unit_at-list n u inside i)

pub unit_at-narrow : (u : ℕ) → IsNarrow (unit_at u)
unit_at-narrow u i =
    elim (cases_eq i u) [
      | inl here ↦ rw (unit_at-same u i here) (omega arith)
      | inr apart ↦ rw (unit_at-other u i apart) (omega arith)
    ]

-- ---- sizes
least_small : (bound n : ℕ) → bound < 2 ^ 24 → min bound n < 2 ^ 24
least_small bound n small = omega arith

pub small_cover : (network : NetworkOf) (limit : LimitOf) (x : Displaced) → IsLimit network limit → IsNarrow x → IsSmallCover (length network.candidates) (cover_of network limit x)
small_cover network limit x bounds narrow =
    let small = load-small (length network.unknowns) network.candidates limit.alpha limit.squares x bounds.bounded narrow in
    let bound : bound_of limit x < 2 ^ 24 = (cut_shift-least (load_number limit x) small).reached in
    record {
      each = length-map network.candidates (coefficient_of limit x);
      coefficients = All-map (λ (n : ℕ). n < 2 ^ 24) (coefficient_of limit x) network.candidates (λ k d lt. least_small (bound_of limit x) (rounded_up (energy_number limit x (get_or network.candidates k d)) (2 ^ cut_shift (load_number limit x))) bound);
      bound = bound;
    }
