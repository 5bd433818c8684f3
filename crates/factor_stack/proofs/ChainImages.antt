-- A chain that is computed to its end is the one of its matrix.
use Rattle.std.proofs.Common.{◌≡◌, ℕ, ◌<◌, ◌≤◌, true, false, if◌then◌else◌, List, [], length, take, sym, ◌∙◌, ap, ap₂, arith, ℤ}
use Rattle.std.specs.Prelude.{Option, Some, None}
use Rattle.std.proofs.lemmas.List.{ext_get_or, get_or-take, length-take-le}
use Rattle.whole_algebra.specs.Chains.{chain_rows, stops, stop_place, stop_value}
use Rattle.whole_algebra.proofs.Places.{row_at-chain_rows}
use Rattle.chain_step.specs.Step.{over_of}
use Rattle.chain_step.specs.declared.side.Side.{Side}
use Rattle.chain_step.proofs.Matrices.{GoesOn}
use Rattle.pivot_chain.specs.Chain.{chain_of, IsSmall}
use Rattle.pivot_chain.specs.declared.chain.Stop.{Stop}
use Rattle.pivot_chain.proofs.ChainSteps.{no_stop}
use Rattle.pivot_chain.proofs.ChainRun.{goes_on_so_far}
use Rattle.factor_stack.specs.declared.chain.Chain.{Chain}
use Rattle.factor_stack.specs.Image.{ChainOf, stop_in, chain_image}
use Rattle.factor_stack.specs.Stored.{held_chain}
use Rattle.factor_stack.specs.Running.{HasRows, HasRun}
use Rattle.factor_stack.proofs.StopReads.{rows_of_whole, rows_to_stop}

-- the first rows, as many as the chain has
first_rows : (side : Side) (count : ℕ) (matrix rows : List (List ℤ)) → count ≤ length matrix → count ≤ length rows → HasRows side matrix count rows
    → length (chain_rows (over_of side) (length matrix) matrix) ≡ count → take count rows ≡ chain_rows (over_of side) (length matrix) matrix
first_rows side count matrix rows le room done long =
    let size = length-take-le count rows room in
    ext_get_or [] (take count rows) (chain_rows (over_of side) (length matrix) matrix) (size ∙ sym long)
    (λ j lt. let inside : j < count = omega arith in
    get_or-take count rows j [] inside ∙ (done j inside ∙ sym (row_at-chain_rows (over_of side) (length matrix) j matrix (omega arith))))

same_chain : (a b : List (List ℤ)) (s t : Option Stop) → a ≡ b → s ≡ t → let p : ChainOf = record { rows = a; stop = s } in let q : ChainOf = record { rows = b; stop = t } in p ≡ q
same_chain a b s t e f = ap₂ (λ r u. let c : ChainOf = record { rows = r; stop = u } in c) e f

whole_image : (side : Side) (matrix rows : List (List ℤ)) (stop : Option Stop) → IsSmall matrix → HasRun side matrix (length matrix) (record { rows = rows; stop = stop })
    → held_chain (record { rows = rows; stop = stop }) ≡ chain_image side matrix
unfolding chain_image
whole_image side matrix rows None small run =
    let places = run.places in
    let state = run.state in
    let goes : GoesOn side (length matrix) matrix = goes_on_so_far side matrix rows (length matrix) state.done state.pivots in
    let never : stops (chain_of side matrix) ≡ false = no_stop side (length matrix) matrix small.shape goes in
    same_chain (take (length rows) rows) (chain_rows (over_of side) (length matrix) matrix) None (stop_in (chain_of side matrix))
    (ap (λ k. take k rows) places ∙ first_rows side (length matrix) matrix rows (omega arith) (omega arith) state.done (rows_of_whole side (length matrix) matrix small.shape goes))
    (sym (ap (λ b. if b then Some (record { step = stop_place (chain_of side matrix); value = stop_value (chain_of side matrix) }) else None) never))
whole_image side matrix rows (Some stop) small run =
    let places = run.places in
    let state = run.state in
    let here : stops (chain_of side matrix) ≡ true = state.stops.stops_here in
    let place = state.stops.place in
    let before = state.before in
    same_chain (take stop.step rows) (chain_rows (over_of side) (length matrix) matrix) (Some stop) (stop_in (chain_of side matrix))
    (first_rows side stop.step matrix rows before (omega arith) state.done (rows_to_stop (over_of side) (length matrix) matrix here ∙ sym place))
    (ap₂ (λ p v. let s : Option Stop = Some (record { step = p; value = v }) in s) place state.stops.number
    ∙ sym (ap (λ b. if b then Some (record { step = stop_place (chain_of side matrix); value = stop_value (chain_of side matrix) }) else None) here))

pub image_by_run : (side : Side) (matrix : List (List ℤ)) (chain : Chain) → IsSmall matrix → HasRun side matrix (length matrix) chain → held_chain chain ≡ chain_image side matrix
image_by_run side matrix chain small run = whole_image side matrix chain.rows chain.stop small run
