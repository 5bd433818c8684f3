-- The verdict that two chains tell.
use Rattle.std.proofs.Common.{◌≡◌, ℕ, ◌-◌, ◌<◌, ◌≤◌, Bool, List, [], length, refl, sym, ◌∙◌, ap, ap₂, subst, arith, ℤ, true, false, cond}
use Rattle.std.specs.Prelude.{Option, Some, None, IfSome}
use Rattle.std.proofs.lemmas.List.{get_or-take}
use Rattle.whole_algebra.specs.Matrices.{at}
use Rattle.whole_algebra.specs.Chains.{lower_chain, upper_chain, stops, stop_place, stop_value, pivot_at, matrix_after, met, refuted, open_at}
use Rattle.whole_algebra.specs.Grid.{row_at}
use Rattle.whole_algebra.proofs.Places.{row_at-chain_rows}
use Rattle.geo_model.specs.Limit.{LimitOf, SquareOf}
use Rattle.geo_model.specs.Network.{NetworkOf}
use Rattle.geo_model.specs.declared.verdict.Verdict.TheVariants.{Met, Refuted, Open}
use Rattle.limit_forms.specs.Grid.{lower_grid, upper_grid}
use Rattle.lent_parts.specs.Triangle.{tri_row}
use Rattle.chain_step.specs.Step.{over_of}
use Rattle.chain_step.specs.declared.side.Side.TheVariants.{Lower, Upper}
use Rattle.pivot_chain.specs.Chain.{StopsAt}
use Rattle.pivot_chain.specs.Verdict.{verdict_from, verdict_of, verdict_on}
use Rattle.pivot_chain.specs.declared.chain.Stop.{Stop}
use Rattle.pivot_chain.proofs.ChainSteps.{outcome_open, pivot_read}
use Rattle.pivot_chain.proofs.Judged.{step_range, tall_lower, tall_upper}
use Rattle.factor_stack.specs.declared.chain.Chain.{Chain}
use Rattle.factor_stack.specs.declared.held.Held.{Held}
use Rattle.factor_stack.specs.declared.factors.Factors.{Factors}
use Rattle.factor_stack.specs.Image.{ImageOf, chain_image, image_of}
use Rattle.factor_stack.specs.Stored.{held_chain, held_image, IsHeldChain}
use Rattle.factor_stack.specs.Stack.{IsImage}
use Rattle.factor_stack.proofs.CarriedRows.{image_rows, image_stop, never_in, stop_here}

-- ---- the chains of an image
pub lower_image : (network : NetworkOf) (limit : LimitOf) (held : Held) → held_image held ≡ image_of network limit held.plan
    → held_chain held.factors.lower ≡ chain_image Lower (lower_grid network held.plan limit.alpha limit.squares)
unfolding image_of
lower_image network limit held e = ap (λ (i : ImageOf). i.lower) e

pub upper_image : (network : NetworkOf) (limit : LimitOf) (held : Held) → held_image held ≡ image_of network limit held.plan
    → held_chain held.factors.upper ≡ chain_image Upper (upper_grid network held.plan limit.alpha limit.squares)
unfolding image_of
upper_image network limit held e = ap (λ (i : ImageOf). i.upper) e

pub from_images : (network : NetworkOf) (limit : LimitOf) (plan : List Bool) (image : ImageOf) → image.plan ≡ plan
    → image.lower ≡ chain_image Lower (lower_grid network plan limit.alpha limit.squares) → image.upper ≡ chain_image Upper (upper_grid network plan limit.alpha limit.squares)
    → image ≡ image_of network limit plan
unfolding image_of
from_images network limit plan image e f g =
    ap (λ p. let i : ImageOf = record { plan = p; lower = image.lower; upper = image.upper } in i) e
    ∙ ap₂ (λ l u. let i : ImageOf = record { plan = plan; lower = l; upper = u } in i) f g

-- a stored image that is known by its value
pub held_told : (network : NetworkOf) (limit : LimitOf) (held : Held) (image : ImageOf) → held_image held ≡ image → IsImage network limit image → held_image held ≡ image_of network limit held.plan
held_told network limit held image e is = e ∙ (is.exact ∙ ap (λ (i : ImageOf). image_of network limit i.plan) (sym e))

-- ---- the three verdicts
pub met_told : (network : NetworkOf) (limit : LimitOf) (held : Held) → held_image held ≡ image_of network limit held.plan → held.factors.lower.stop ≡ None
    → Met ≡ verdict_of network held.plan limit
unfolding verdict_of verdict_on
met_told network limit held e none =
    let low = lower_grid network held.plan limit.alpha limit.squares in
    let high = upper_grid network held.plan limit.alpha limit.squares in
    let never : stops (lower_chain low) ≡ false = never_in (lower_chain low) (sym none ∙ image_stop Lower low held.factors.lower (lower_image network limit held e)) in
    sym (ap (λ b. verdict_from (cond b (cond (stops (upper_chain high)) refuted (open_at (stop_place (lower_chain low)) (stop_value (lower_chain low)) (pivot_at (upper_chain high) (stop_place (lower_chain low))))) met)) never)

low_stop : (network : NetworkOf) (limit : LimitOf) (held : Held) (low : Stop) → held_image held ≡ image_of network limit held.plan → held.factors.lower.stop ≡ Some low
    → StopsAt (lower_chain (lower_grid network held.plan limit.alpha limit.squares)) low
low_stop network limit held low e some =
    let m = lower_grid network held.plan limit.alpha limit.squares in
    stop_here (lower_chain m) low (sym some ∙ image_stop Lower m held.factors.lower (lower_image network limit held e))

pub refuted_told : (network : NetworkOf) (limit : LimitOf) (held : Held) (first second : Stop) → held_image held ≡ image_of network limit held.plan → held.factors.lower.stop ≡ Some first
    → held.factors.upper.stop ≡ Some second → Refuted ≡ verdict_of network held.plan limit
unfolding verdict_of verdict_on
refuted_told network limit held first second e some other =
    let low = lower_grid network held.plan limit.alpha limit.squares in
    let high = upper_grid network held.plan limit.alpha limit.squares in
    let below : stops (lower_chain low) ≡ true = (low_stop network limit held first e some).stops_here in
    let above : stops (upper_chain high) ≡ true = (stop_here (upper_chain high) second (sym other ∙ image_stop Upper high held.factors.upper (upper_image network limit held e))).stops_here in
    sym (ap₂ (λ a b. verdict_from (cond a (cond b refuted (open_at (stop_place (lower_chain low)) (stop_value (lower_chain low)) (pivot_at (upper_chain high) (stop_place (lower_chain low))))) met)) below above)

-- the upper chain's row at a step, where it doesn't stop
upper_row : (m : List (List ℤ)) (chain : Chain) (k : ℕ) → held_chain chain ≡ chain_image Upper m → chain.stop ≡ None → k < length m → k < length chain.rows
    → tri_row chain.rows k ≡ row_at (matrix_after (over_of Upper) k m) 0
upper_row m chain k e none lt inside = by chain.rows chain.stop e none inside
  where
    by : (rows : List (List ℤ)) (stop : Option Stop) → held_chain (record { rows = rows; stop = stop }) ≡ chain_image Upper m → stop ≡ None → k < length rows
        → tri_row rows k ≡ row_at (matrix_after (over_of Upper) k m) 0
    by rows None e none inside =
        sym (get_or-take (length rows) rows k [] inside) ∙ (ap (λ (r : List (List ℤ)). tri_row r k) (image_rows Upper m (record { rows = rows; stop = None }) e) ∙ row_at-chain_rows (over_of Upper) (length m) k m lt)
    by rows (Some stop) e none inside = absurd (cc)

pub open_told : (network : NetworkOf) (limit : LimitOf) (held : Held) (low : Stop) (row : List ℤ) → held_image held ≡ image_of network limit held.plan → held.factors.lower.stop ≡ Some low
    → held.factors.upper.stop ≡ None → row ≡ tri_row held.factors.upper.rows (low.step - 1) → low.step ≤ length held.factors.upper.rows
    → Open low.step low.value (at row 0) ≡ verdict_of network held.plan limit
unfolding verdict_of verdict_on
open_told network limit held low row e some none is inside =
    let lower = lower_grid network held.plan limit.alpha limit.squares in
    let upper = upper_grid network held.plan limit.alpha limit.squares in
    let below = low_stop network limit held low e some in
    let above : stops (upper_chain upper) ≡ false = never_in (upper_chain upper) (sym none ∙ image_stop Upper upper held.factors.upper (upper_image network limit held e)) in
    let range = step_range Lower lower low below in
    let tall = tall_lower network held.plan limit.alpha limit.squares lower refl in
    let wide = tall_upper network held.plan limit.alpha limit.squares upper refl in
    let one : 1 ≤ low.step = range.0 in
    let le : low.step ≤ length upper = omega (arith, range.1) in
    let read = is ∙ upper_row upper held.factors.upper (low.step - 1) (upper_image network limit held e) none (omega arith) (omega arith) in
    let pivot = pivot_read Upper (length upper) low.step upper row one le above read in
    sym (ap verdict_from (outcome_open (lower_chain lower) (upper_chain upper) low.step low.value (at row 0) below.stops_here above below.place below.number pivot))

-- the place of a stop that is stored
pub stop_range : (n : ℕ) (chain : Chain) (stop : Stop) → IsHeldChain n chain → chain.stop ≡ Some stop → (1 ≤ stop.step) × (stop.step ≤ n)
stop_range n chain stop held e = subst (λ s. IfSome s (λ t. (1 ≤ t.step) × (t.step ≤ n))) e held.stop

-- what was computed is the image of the plan
pub computed : (network : NetworkOf) (limit : LimitOf) (plan held : List Bool) (alpha : ℤ) (squares : List SquareOf) (factors : Factors) → held ≡ plan → alpha ≡ limit.alpha → squares ≡ limit.squares
    → held_chain factors.lower ≡ chain_image Lower (lower_grid network held alpha squares) → held_chain factors.upper ≡ chain_image Upper (upper_grid network held alpha squares)
    → held_image (record { plan = plan; factors = factors }) ≡ image_of network limit plan
computed network limit plan held alpha squares factors e f g lower upper =
    from_images network limit plan (held_image (record { plan = plan; factors = factors })) refl
    (lower ∙ ap (chain_image Lower) (ap₂ (λ p a. lower_grid network p a squares) e f ∙ ap (lower_grid network plan limit.alpha) g))
    (upper ∙ ap (chain_image Upper) (ap₂ (λ p a. upper_grid network p a squares) e f ∙ ap (upper_grid network plan limit.alpha) g))
