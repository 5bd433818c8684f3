-- The dual bound of a node. By the duality of linear programming, multipliers of covering inequalities give a lower bound on
-- what each plan of the node costs that satisfies them; here with stations, whose prices are paid once. The form is this
-- project's own.
use Rattle.std.specs.Prelude.{ℕ, ◌+◌, ◌-◌, ◌*◌, ◌/◌, ◌<◌, ◌≤◌, ℤ, pos, negsuc, ◌+ℤ◌, ◌-ℤ◌, ◌&&◌, not, if◌then◌else◌, Bool, true, false, List, All, length, sum_by, get_or, Option, Some, None}
use Rattle.std.specs.Int.{int_min}
use Rattle.geo_model.specs.Below.{int_sum_below}
use Rattle.geo_model.specs.Cover.{CoverOf, Satisfies}
use Rattle.geo_model.specs.Energy.{IsWithin}
use Rattle.geo_model.specs.Prices.{PricesOf, HasStationPrices, chooses, is_station, uses_station, plan_price}
use Rattle.geo_model.specs.declared.plan.Node.{Node}

-- a covering inequality with its multiplier
pub record WeighedCover : Type 0 where
  pub multiplier : ℕ
  pub cover : CoverOf

-- what the shares take off a candidate: the sum of the multipliers times its coefficients
abbrev pub taken_off : List WeighedCover → ℕ → ℕ
taken_off shares i = sum_by (λ share. share.multiplier * get_or share.cover.coefficients i 0) shares

-- the reduced price of a candidate: d times its price, less what the shares take off
abbrev pub reduced_price : PricesOf → ℕ → List WeighedCover → ℕ → ℤ
reduced_price prices d shares i = pos (d * get_or prices.candidates i 0) -ℤ pos (taken_off shares i)

-- a candidate is open at a node: some plans of the node choose it and others don't
abbrev pub is_open : Node → ℕ → Bool
is_open node i = chooses node.upper i && not (chooses node.inside i)

-- what a candidate gives: its reduced price where the inner plan has it
abbrev pub inner_part : (ℕ → ℤ) → Node → ℕ → ℤ
inner_part reduced node i = if chooses node.inside i then reduced i else pos 0

-- what an open candidate that passes a test gives at least: its reduced price where that is negative
abbrev pub open_part : (ℕ → ℤ) → Node → (ℕ → Bool) → ℕ → ℤ
open_part reduced node test i = if is_open node i && test i then int_min (pos 0) (reduced i) else pos 0

-- their sums
abbrev pub inner_sum : (ℕ → ℤ) → Node → ℤ
inner_sum reduced node = int_sum_below (inner_part reduced node) (length node.upper)

abbrev pub open_sum : (ℕ → ℤ) → Node → (ℕ → Bool) → ℤ
open_sum reduced node test = int_sum_below (open_part reduced node test) (length node.upper)

-- a candidate has no station
abbrev pub has_none : Option ℕ → Bool
has_none None = true
has_none (Some station) = false

-- What a station and its open candidates give at least: d times its price and the least sum of its candidates, or nothing
-- where that is more and the inner plan doesn't use it.
abbrev pub station_term : PricesOf → ℕ → (ℕ → ℤ) → Node → ℕ → ℤ
station_term prices d reduced node k =
    let whole = pos (d * get_or prices.station_prices k 0) +ℤ open_sum reduced node (λ i. is_station k (get_or prices.stations i None)) in
    if uses_station prices.stations node.inside k then whole else int_min (pos 0) whole

-- d times the bound: over the inner plan, the open candidates without a station, the stations, and the shares
unfoldable pub dual_sum : PricesOf → ℕ → List WeighedCover → Node → ℤ
dual_sum prices d shares node =
    let reduced = reduced_price prices d shares in
    ((inner_sum reduced node +ℤ open_sum reduced node (λ i. has_none (get_or prices.stations i None)))
    +ℤ int_sum_below (station_term prices d reduced node) (length prices.station_prices))
    +ℤ pos (sum_by (λ share. share.multiplier * share.cover.bound) shares)

-- a whole number, or 0 where it is negative
abbrev pub at_least_zero : ℤ → ℕ
at_least_zero (pos n) = n
at_least_zero (negsuc n) = 0

-- the dual bound of a node: that sum over d, rounded up, and at least 0
unfoldable pub dual_bound : PricesOf → ℕ → List WeighedCover → Node → ℕ
dual_bound prices d shares node = (at_least_zero (dual_sum prices d shares node) + (d - 1)) / d

-- each plan of a node that satisfies the covering inequalities costs at least the dual bound, whatever the prices
abbrev pub PlansCostTheDualBound : Type 0
PlansCostTheDualBound =
    (prices : PricesOf) (d : ℕ) (shares : List WeighedCover) (node : Node) (plan : List Bool) → 0 < d → HasStationPrices prices →
    IsWithin node.inside plan → IsWithin plan node.upper → All (λ share. Satisfies share.cover plan) shares →
    dual_bound prices d shares node ≤ plan_price prices plan
