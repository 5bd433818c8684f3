-- Prices of plans: a plan costs what its candidates cost, and what the stations cost that it uses. They may be any whole
-- numbers; those of a network are one case. This project's own.
use Rattle.std.specs.Prelude.{ℕ, ◌==◌, ◌+◌, ◌<◌, ◌≤◌, ◌&&◌, if◌then◌else◌, Bool, false, List, All, length, map, get_or, Option, Some, None}
use Rattle.std.specs.Option.{ForSome}
use Rattle.geo_model.specs.Below.{sum_below, any_below}
use Rattle.geo_model.specs.Cover.{chosen_sum}
use Rattle.geo_model.specs.Energy.{IsWithin}
use Rattle.geo_model.specs.Network.{NetworkOf}

-- the price of each candidate, the station of each candidate that has one, and the price of each station
pub record PricesOf : Type 0 where
  pub candidates : List ℕ
  pub stations : List (Option ℕ)
  pub station_prices : List ℕ

-- each station is the number of a price
abbrev pub HasStationPrices : PricesOf → Type 0
HasStationPrices prices = All (λ station. ForSome station (λ k. k < length prices.station_prices)) prices.stations

-- a station, if any, is this one
abbrev pub is_station : ℕ → Option ℕ → Bool
is_station k None = false
is_station k (Some station) = station == k

-- a plan chooses a candidate; none beyond its end
abbrev pub chooses : List Bool → ℕ → Bool
chooses plan i = get_or plan i false

-- a plan chooses a candidate, which has this station
abbrev pub chooses_at : List (Option ℕ) → List Bool → ℕ → ℕ → Bool
chooses_at stations plan k i = chooses plan i && is_station k (get_or stations i None)

-- a plan uses a station: it chooses a candidate that has it
abbrev pub uses_station : List (Option ℕ) → List Bool → ℕ → Bool
uses_station stations plan k = any_below (chooses_at stations plan k) (length plan)

-- what a station adds to the price of a plan
abbrev pub station_part : PricesOf → List Bool → ℕ → ℕ
station_part prices plan k = if uses_station prices.stations plan k then get_or prices.station_prices k 0 else 0

-- the sum of the prices of the stations that a plan uses
abbrev pub stations_price : PricesOf → List Bool → ℕ
stations_price prices plan = sum_below (station_part prices plan) (length prices.station_prices)

-- the price of a plan: the sum of the prices of its candidates, and of those of the stations that it uses
unfoldable pub plan_price : PricesOf → List Bool → ℕ
plan_price prices plan = chosen_sum prices.candidates plan + stations_price prices plan

-- the prices of a network
unfoldable pub prices_of : NetworkOf → PricesOf
prices_of network = record {
  candidates = map (λ candidate. candidate.price) network.candidates;
  stations = network.stations;
  station_prices = network.station_prices;
}

-- the price of a plan in a network
abbrev pub price_of : NetworkOf → List Bool → ℕ
price_of network plan = plan_price (prices_of network) plan

-- a larger plan costs at least as much, whatever the prices
abbrev pub LargerPlansCostMore : Type 0
LargerPlansCostMore = (prices : PricesOf) (small large : List Bool) → IsWithin small large → plan_price prices small ≤ plan_price prices large
