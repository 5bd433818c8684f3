use Rattle.std.proofs.Common.{◌≡◌, ℕ, ◌+◌, ◌-◌, ◌*◌, ◌/◌, ℤ, pos, ◌+ℤ◌, Bool, true, false, if◌then◌else◌, List, length, get_or, Some, None, ap, ap₂, ◌∙◌}
use Rattle.std.specs.Int.{int_min}
use Rattle.std.specs.Prelude.{sum_by}
use Rattle.geo_model.specs.Below.{int_sum_below}
use Rattle.geo_model.specs.Dual.{WeighedCover, inner_sum, open_sum, reduced_price, station_term, dual_sum, at_least_zero, dual_bound}
use Rattle.geo_model.specs.declared.plan.Node.{Node}
use Rattle.geo_model.specs.Network.{NetworkOf}
use Rattle.geo_model.specs.Prices.{prices_of, uses_station}
use Rattle.reduced_sums.specs.Groups.{in_group}

-- The terms of a dual bound, by the network's own lists.

-- the term of a station that the inner plan uses
pub term_used : (network : NetworkOf) (d : ℕ) (reduced : ℕ → ℤ) (node : Node) (k : ℕ) → uses_station network.stations node.inside k ≡ true
    → station_term (prices_of network) d reduced node k ≡ pos (d * get_or network.station_prices k 0) +ℤ open_sum reduced node (in_group network.stations (Some k))
unfolding prices_of
term_used network d reduced node k used =
    let whole = pos (d * get_or network.station_prices k 0) +ℤ open_sum reduced node (in_group network.stations (Some k)) in
    ap (λ (b : Bool). if b then whole else int_min (pos 0) whole) used

-- .. and of one that it doesn't use
pub term_unused : (network : NetworkOf) (d : ℕ) (reduced : ℕ → ℤ) (node : Node) (k : ℕ) → uses_station network.stations node.inside k ≡ false
    → station_term (prices_of network) d reduced node k ≡ int_min (pos 0) (pos (d * get_or network.station_prices k 0) +ℤ open_sum reduced node (in_group network.stations (Some k)))
unfolding prices_of
term_unused network d reduced node k unused =
    let whole = pos (d * get_or network.station_prices k 0) +ℤ open_sum reduced node (in_group network.stations (Some k)) in
    ap (λ (b : Bool). if b then whole else int_min (pos 0) whole) unused

-- the sum of the parts
pub parts_sum : (network : NetworkOf) (d : ℕ) (shares : List WeighedCover) (reduced : ℕ → ℤ) (node : Node) (inner free stations : ℤ) (paid : ℕ)
    → ((i : ℕ) → reduced i ≡ reduced_price (prices_of network) d shares i)
    → inner ≡ inner_sum reduced node → free ≡ open_sum reduced node (in_group network.stations None)
    → stations ≡ int_sum_below (station_term (prices_of network) d reduced node) (length network.station_prices)
    → paid ≡ sum_by (λ share. share.multiplier * share.cover.bound) shares
    → ((inner +ℤ free) +ℤ stations) +ℤ pos paid ≡ dual_sum (prices_of network) d shares node
unfolding dual_sum prices_of
parts_sum network d shares reduced node inner free stations paid are first second third fourth =
    let all : reduced ≡ reduced_price (prices_of network) d shares = λ i k. are k i in
    ap₂ (λ (s : ℤ) (n : ℕ). s +ℤ pos n) (ap₂ (λ s t. s +ℤ t) (ap₂ (λ s t. s +ℤ t) first second) third) fourth
    ∙ ap (λ (f : ℕ → ℤ). ((inner_sum f node +ℤ open_sum f node (in_group network.stations None))
    +ℤ int_sum_below (station_term (prices_of network) d f node) (length network.station_prices)) +ℤ pos (sum_by (λ share. share.multiplier * share.cover.bound) shares)) all

-- the bound from the sum
pub bound_is : (network : NetworkOf) (d : ℕ) (shares : List WeighedCover) (node : Node) (sum : ℤ) → sum ≡ dual_sum (prices_of network) d shares node → (at_least_zero sum + (d - 1)) / d ≡ dual_bound (prices_of network) d shares node
unfolding dual_bound
bound_is network d shares node sum is = ap (λ z. (at_least_zero z + (d - 1)) / d) is
