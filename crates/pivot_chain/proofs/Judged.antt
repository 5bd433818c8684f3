-- The verdict as the code puts it together.
use Rattle.std.proofs.Common.{◌≡◌, ℕ, ◌+◌, ◌^◌, ◌<◌, ◌≤◌, Bool, List, length, get_or, refl, sym, ◌∙◌, ap, ap₂, subst, arith, ℤ, pos, ◌+ℤ◌, ◌-ℤ◌, ◌≤ℤ◌}
use Rattle.std.proofs.lemmas.Int.{ints}
use Rattle.whole_algebra.specs.Rounding.{floor_over, gap_over}
use Rattle.whole_algebra.specs.Matrices.{at, slacks, IsTriangle}
use Rattle.whole_algebra.specs.Chains.{chains_outcome as outcome_on}
use Rattle.whole_algebra.specs.Grid.{row_at}
use Rattle.whole_algebra.proofs.Rounding.{gap_range}
use Rattle.whole_algebra.proofs.Shapes.{length-triangle}
use Rattle.whole_algebra.proofs.Places.{at-diagonal, lower_over-diagonal, upper_over-diagonal}
use Rattle.whole_algebra.proofs.VerdictLaws.{stop_place-range, length-chain}
use Rattle.whole_algebra.proofs.DiagonalLaws.{slack_nonneg}
use Rattle.whole_algebra.proofs.Order.{le_trans}
use Rattle.geo_model.specs.Limit.{SquareOf, LimitOf, IsLoad}
use Rattle.geo_model.specs.Network.{NetworkOf, IsNetwork, IsLimit}
use Rattle.limit_forms.specs.Grid.{on_grid, grid_step, lower_grid, upper_grid}
use Rattle.limit_forms.proofs.GridEntries.{step_above, lower_triangle, upper_triangle, lower_small, upper_small, upper_heads}
use Rattle.chain_step.specs.Step.{over_of}
use Rattle.pivot_chain.specs.Chain.{chain_of, StopsAt, IsSmall}
use Rattle.pivot_chain.specs.Judging.{lower_of, upper_of, IsMade}
use Rattle.pivot_chain.specs.declared.grids.Grids.{Grids}
use Rattle.pivot_chain.specs.Verdict.{verdict_from, verdict_of, verdict_on}
use Rattle.chain_step.specs.declared.side.Side.{Side}
use Rattle.pivot_chain.specs.declared.chain.Stop.{Stop}

-- ---- the grid matrices are small
heads_below : (network : NetworkOf) (plan : List Bool) (alpha : ℤ) (squares : List SquareOf) (i : ℕ)
    → at (row_at (lower_grid network plan alpha squares) i) 0 ≤ℤ at (row_at (upper_grid network plan alpha squares) i) 0
unfolding lower_grid upper_grid
heads_below network plan alpha squares i =
    let m = on_grid network plan alpha squares in
    by (at (row_at (lower_grid network plan alpha squares) i) 0) (at (row_at (upper_grid network plan alpha squares) i) 0)
    (floor_over grid_step (at (row_at m i) 0)) (gap_over grid_step (at (row_at m i) 0)) (at (slacks grid_step m) i)
    (lower_over-diagonal grid_step m i step_above) (upper_over-diagonal grid_step m i step_above)
    (gap_range grid_step (at (row_at m i) 0)).0 (slack_nonneg grid_step m i step_above)
  where
    by : (p q f g s : ℤ) → p ≡ f -ℤ s → q ≡ (f +ℤ g) +ℤ s → pos 0 ≤ℤ g → pos 0 ≤ℤ s → p ≤ℤ q
    by p q f g s e h a b = omega (arith, ints)

upper_head : (network : NetworkOf) (plan : List Bool) (alpha : ℤ) (squares : List SquareOf) (i : ℕ) → IsNetwork network → IsLoad (length network.unknowns) network.candidates alpha squares
    → at (row_at (upper_grid network plan alpha squares) i) 0 ≤ℤ pos (2 ^ 60 + 64)
upper_head network plan alpha squares i bounds load =
    subst (λ z. z ≤ℤ pos (2 ^ 60 + 64)) (at-diagonal (upper_grid network plan alpha squares) i) (upper_heads network plan alpha squares i bounds load)

whole_triangle : (n : ℕ) (m : List (List ℤ)) → IsTriangle n m → IsTriangle (length m) m
whole_triangle n m t = subst (λ k. IsTriangle k m) (sym (length-triangle n m t)) t

few_rows : (n : ℕ) (m : List (List ℤ)) → IsTriangle n m → n ≤ 64 → length m ≤ 64
few_rows n m t few = let e = length-triangle n m t in omega arith

pub small_lower : (network : NetworkOf) (plan : List Bool) (alpha : ℤ) (squares : List SquareOf) → IsNetwork network → IsLoad (length network.unknowns) network.candidates alpha squares
    → IsSmall (lower_grid network plan alpha squares)
small_lower network plan alpha squares bounds load =
    let n = length network.unknowns in
    let m = lower_grid network plan alpha squares in
    record {
      shape = whole_triangle n m (lower_triangle network plan alpha squares);
      few = few_rows n m (lower_triangle network plan alpha squares) bounds.unknowns;
      each_size = λ i k. lower_small network plan alpha squares i k bounds load;
      heads = λ i. le_trans (at (row_at m i) 0) (at (row_at (upper_grid network plan alpha squares) i) 0) (pos (2 ^ 60 + 64)) (heads_below network plan alpha squares i) (upper_head network plan alpha squares i bounds load);
    }

pub small_upper : (network : NetworkOf) (plan : List Bool) (alpha : ℤ) (squares : List SquareOf) → IsNetwork network → IsLoad (length network.unknowns) network.candidates alpha squares
    → IsSmall (upper_grid network plan alpha squares)
small_upper network plan alpha squares bounds load =
    let n = length network.unknowns in
    let m = upper_grid network plan alpha squares in
    record {
      shape = whole_triangle n m (upper_triangle network plan alpha squares);
      few = few_rows n m (upper_triangle network plan alpha squares) bounds.unknowns;
      each_size = λ i k. upper_small network plan alpha squares i k bounds load;
      heads = λ i. upper_head network plan alpha squares i bounds load;
    }

pub tall_lower : (network : NetworkOf) (plan : List Bool) (alpha : ℤ) (squares : List SquareOf) (m : List (List ℤ)) → m ≡ lower_grid network plan alpha squares → length m ≡ length network.unknowns
tall_lower network plan alpha squares m e = ap length e ∙ length-triangle (length network.unknowns) (lower_grid network plan alpha squares) (lower_triangle network plan alpha squares)

pub tall_upper : (network : NetworkOf) (plan : List Bool) (alpha : ℤ) (squares : List SquareOf) (m : List (List ℤ)) → m ≡ upper_grid network plan alpha squares → length m ≡ length network.unknowns
tall_upper network plan alpha squares m e = ap length e ∙ length-triangle (length network.unknowns) (upper_grid network plan alpha squares) (upper_triangle network plan alpha squares)

-- both have a row for each unknown
pub small_lower_of : (grids : Grids) → IsNetwork grids.network.now → IsMade grids → IsSmall (lower_of grids)
small_lower_of grids bounds made = small_lower grids.network.now grids.normal.now.plan grids.alpha grids.squares.now bounds made.load

pub small_upper_of : (grids : Grids) → IsNetwork grids.network.now → IsMade grids → IsSmall (upper_of grids)
small_upper_of grids bounds made = small_upper grids.network.now grids.normal.now.plan grids.alpha grids.squares.now bounds made.load

pub tall_lower_of : (grids : Grids) → length (lower_of grids) ≡ length grids.network.now.unknowns
tall_lower_of grids = tall_lower grids.network.now grids.normal.now.plan grids.alpha grids.squares.now (lower_of grids) refl

pub tall_upper_of : (grids : Grids) → length (upper_of grids) ≡ length grids.network.now.unknowns
tall_upper_of grids = tall_upper grids.network.now grids.normal.now.plan grids.alpha grids.squares.now (upper_of grids) refl

-- ---- the limit that was looked up
pub limit_at : (network : NetworkOf) (limits : List LimitOf) (i : ℕ) (form : LimitOf) → IsNetwork network → limits ≡ network.limits → i < length network.limits → form ≡ get_or limits i form → IsLimit network form
limit_at network limits i form bounds same lt e =
    subst (IsLimit network) (sym (e ∙ ap (λ xs. get_or xs i form) same)) (bounds.each_limit i form lt)

pub load_of : (network : NetworkOf) (form : LimitOf) (alpha : ℤ) (squares : List SquareOf) → IsLimit network form → alpha ≡ form.alpha → squares ≡ form.squares
    → IsLoad (length network.unknowns) network.candidates alpha squares
load_of network form alpha squares bounded e f =
    subst (λ a. IsLoad (length network.unknowns) network.candidates a squares) (sym e) (subst (λ s. IsLoad (length network.unknowns) network.candidates form.alpha s) (sym f) bounded.bounded)

-- ---- the verdict
pub verdict_is : (network : NetworkOf) (plan held : List Bool) (alpha : ℤ) (squares : List SquareOf) → held ≡ plan
    → verdict_from (outcome_on (lower_grid network held alpha squares) (upper_grid network held alpha squares)) ≡ verdict_on network plan alpha squares
unfolding verdict_on
verdict_is network plan held alpha squares e =
    ap (λ h. verdict_from (outcome_on (lower_grid network h alpha squares) (upper_grid network h alpha squares))) e

-- that of a limit with this factor and these squares
pub verdict_on_limit : (network : NetworkOf) (plan : List Bool) (alpha : ℤ) (squares : List SquareOf) (l : LimitOf) → l.alpha ≡ alpha → l.squares ≡ squares
    → verdict_on network plan alpha squares ≡ verdict_of network plan l
unfolding verdict_of
verdict_on_limit network plan alpha squares l e f = ap₂ (verdict_on network plan) (sym e) (sym f)

-- ---- the step at which a chain stops
pub step_range : (side : Side) (m : List (List ℤ)) (stop : Stop) → StopsAt (chain_of side m) stop → (1 ≤ stop.step) × (stop.step ≤ length m)
step_range side m stop h =
    let range = stop_place-range (chain_of side m) h.stops_here in
    let count = length-chain (over_of side) (length m) m in
    let e = h.place in
    (omega (arith, range.0), omega (arith, range.1))
