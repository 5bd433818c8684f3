use Rattle.std.proofs.Common.{◌≡◌, ◌∙◌, ◌*◌, ◌^◌, ◌<◌, ◌≤◌, ℕ, ℤ, pos, ◌+ℤ◌, List, Some, to_z, of_z, length, get_or, arith, ap, ap₂, sym}
use mir.Syntax.{w128}
use Rattle.std.specs.Int.{int_min}
use Rattle.std.specs.Prelude.{unsigned_abs}
use Rattle.geo_model.specs.Dual.{open_sum}
use Rattle.geo_model.specs.Network.{NetworkOf, IsNetwork}
use Rattle.geo_model.specs.declared.plan.Node.{Node}
use Rattle.geo_model.proofs.PriceLemmas.{station_price-few}
use Rattle.whole_algebra.specs.Matrices.{at}
use Rattle.whole_algebra.proofs.Written.{read_back}
use Rattle.reduced_sums.specs.Groups.{in_group}
use Rattle.reduced_sums.proofs.DualTerms.{term_used, term_unused}
use Rattle.reduced_sums.proofs.DualSizes.{product_price, whole_of, int_min_swap, int_min_size}
use Rattle.reduced_sums.proofs.sums.station_term.Goals as goal

-- the price of the station and the sum of its open candidates
record IsTerm (network : NetworkOf) (d : ℕ) (reduced : ℕ → ℤ) (node : Node) (k : ℕ) (computed : ℤ) : Type 0 where
  pub is : computed ≡ pos (d * get_or network.station_prices k 0) +ℤ open_sum reduced node (in_group network.stations (Some k))
  pub size : unsigned_abs computed ≤ 257 * 2 ^ 75

term : (network : NetworkOf) (prices : List ℕ) (d : ℕ) (reduced : ℕ → ℤ) (node : Node) (k over price : ℕ) (sum : ℤ) → IsNetwork network → prices ≡ network.station_prices → k < length network.station_prices → d ≤ 2 ^ 44
    → over ≡ d → price ≡ get_or prices k 0 → sum ≡ open_sum reduced node (in_group network.stations (Some k)) → unsigned_abs sum ≤ 256 * 2 ^ 75
    → IsTerm network d reduced node k (to_z w128 (of_z w128 (to_z w128 (over * price) +ℤ to_z w128 (of_z w128 sum))))
term network prices d reduced node k over price sum kept are inside few divisor here is small =
    let priced : over * price ≡ d * get_or network.station_prices k 0 = ap₂ (λ s t. s * t) divisor (here ∙ ap (λ (l : List ℕ). get_or l k 0) are) in
    let low : over * price ≤ 2 ^ 74 = rw priced (product_price d (get_or network.station_prices k 0) few (station_price-few network k kept inside)) in
    let whole = whole_of (over * price) sum low small in
    record { is = whole.is ∙ ap₂ (λ (n : ℕ) (z : ℤ). pos n +ℤ z) priced is; size = rw whole.is whole.size }

pub returns-then-uses_station-clause-value : goal.returns-then-uses_station-clause-value
returns-then-uses_station-clause-value c =
    let network = c.args.network.now in
    let reduced = at c.args.reduced.now in
    let inside : c.args.station < length network.station_prices = c.requires.station in
    let t = term network c.station_prices-prices.result.now c.args.divisor reduced c.args.node.now c.args.station c.from.result c.from-2.result c.open_sum.result c.station_prices-prices.ensures.bounds c.station_prices-prices.ensures.value inside c.requires.divisor
    c.from.ensures c.from-2.ensures c.open_sum.ensures.value c.open_sum.ensures.size in
    t.is ∙ sym (term_used network c.args.divisor reduced c.args.node.now c.args.station (sym c.uses_station.ensures ∙ c.if-uses_station.true))

pub returns-then-uses_station-clause-size : goal.returns-then-uses_station-clause-size
returns-then-uses_station-clause-size c =
    let network = c.args.network.now in
    let reduced = at c.args.reduced.now in
    let inside : c.args.station < length network.station_prices = c.requires.station in
    let t = term network c.station_prices-prices.result.now c.args.divisor reduced c.args.node.now c.args.station c.from.result c.from-2.result c.open_sum.result c.station_prices-prices.ensures.bounds c.station_prices-prices.ensures.value inside c.requires.divisor
    c.from.ensures c.from-2.ensures c.open_sum.ensures.value c.open_sum.ensures.size in
    t.size

pub returns-else-uses_station-clause-value : goal.returns-else-uses_station-clause-value
returns-else-uses_station-clause-value c =
    let network = c.args.network.now in
    let reduced = at c.args.reduced.now in
    let inside : c.args.station < length network.station_prices = c.requires.station in
    let t = term network c.station_prices-prices.result.now c.args.divisor reduced c.args.node.now c.args.station c.from.result c.from-2.result c.open_sum.result c.station_prices-prices.ensures.bounds c.station_prices-prices.ensures.value inside c.requires.divisor
    c.from.ensures c.from-2.ensures c.open_sum.ensures.value c.open_sum.ensures.size in
    let least : c.min.result ≡ int_min (pos 0) (pos (c.args.divisor * get_or network.station_prices c.args.station 0) +ℤ open_sum reduced c.args.node.now (in_group network.stations (Some c.args.station))) =
    c.min.ensures.value ∙ int_min_swap (to_z w128 (of_z w128 (to_z w128 (c.from.result * c.from-2.result) +ℤ to_z w128 (of_z w128 c.open_sum.result)))) (pos 0) ∙ ap (int_min (pos 0)) t.is in
    let small : unsigned_abs c.min.result ≤ 257 * 2 ^ 75 =
    rw least (int_min_size (pos (c.args.divisor * get_or network.station_prices c.args.station 0) +ℤ open_sum reduced c.args.node.now (in_group network.stations (Some c.args.station))) (257 * 2 ^ 75) (rw (← t.is) t.size)) in
    let read = read_back c.min.result (257 * 2 ^ 75) small (omega arith) in
    read ∙ least ∙ sym (term_unused network c.args.divisor reduced c.args.node.now c.args.station (sym c.uses_station.ensures ∙ c.if-uses_station.false))

pub returns-else-uses_station-clause-size : goal.returns-else-uses_station-clause-size
returns-else-uses_station-clause-size c =
    let network = c.args.network.now in
    let reduced = at c.args.reduced.now in
    let inside : c.args.station < length network.station_prices = c.requires.station in
    let t = term network c.station_prices-prices.result.now c.args.divisor reduced c.args.node.now c.args.station c.from.result c.from-2.result c.open_sum.result c.station_prices-prices.ensures.bounds c.station_prices-prices.ensures.value inside c.requires.divisor
    c.from.ensures c.from-2.ensures c.open_sum.ensures.value c.open_sum.ensures.size in
    let least : c.min.result ≡ int_min (pos 0) (pos (c.args.divisor * get_or network.station_prices c.args.station 0) +ℤ open_sum reduced c.args.node.now (in_group network.stations (Some c.args.station))) =
    c.min.ensures.value ∙ int_min_swap (to_z w128 (of_z w128 (to_z w128 (c.from.result * c.from-2.result) +ℤ to_z w128 (of_z w128 c.open_sum.result)))) (pos 0) ∙ ap (int_min (pos 0)) t.is in
    let small : unsigned_abs c.min.result ≤ 257 * 2 ^ 75 =
    rw least (int_min_size (pos (c.args.divisor * get_or network.station_prices c.args.station 0) +ℤ open_sum reduced c.args.node.now (in_group network.stations (Some c.args.station))) (257 * 2 ^ 75) (rw (← t.is) t.size)) in
    let read = read_back c.min.result (257 * 2 ^ 75) small (omega arith) in
    rw read small
