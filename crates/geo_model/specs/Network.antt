use Rattle.std.specs.Prelude.{ℕ, ◌≡◌, ◌<◌, ◌≤◌, pos, int_lt, ◌&&◌, IsTrue, IsNone, List, [], All, length, replicate, sum_by, count_by, Option, Some, None}
use Rattle.std.specs.Option.{ForSome}
use Rattle.geo_model.specs.Row.{unit_at}
use Rattle.geo_model.specs.Candidate.{CandidateOf, IsCandidate}
use Rattle.geo_model.specs.Limit.{LimitOf, IsLoad, load, is_point_limit}
use Rattle.geo_model.specs.declared.network.Unknown.{Unknown}

-- A control network with its possible observations: the unknowns, the candidates and the limits, each by its number;
-- the station of each candidate that has one, and the price of each station.
pub record NetworkOf : Type 0 where
  pub unknowns : List Unknown
  pub candidates : List CandidateOf
  pub limits : List LimitOf
  pub stations : List (Option ℕ)
  pub station_prices : List ℕ

-- the station of each candidate that has one, and the price of each station
pub record StationsOf : Type 0 where
  pub of_candidates : List (Option ℕ)
  pub prices : List ℕ

-- the stations that were given, or none for any of so many candidates
abbrev pub stations_or_none : ℕ → Option StationsOf → StationsOf
stations_or_none count None = record { of_candidates = replicate count None; prices = [] }
stations_or_none count (Some stations) = stations

-- the network of these lists and stations
abbrev pub network_with : List Unknown → List CandidateOf → List LimitOf → StationsOf → NetworkOf
network_with unknowns candidates limits stations = record {
  unknowns = unknowns;
  candidates = candidates;
  limits = limits;
  stations = stations.of_candidates;
  station_prices = stations.prices;
}

-- the network of these lists, without stations
abbrev pub network_of_lists : List Unknown → List CandidateOf → List LimitOf → NetworkOf
network_of_lists unknowns candidates limits = network_with unknowns candidates limits (stations_or_none (length candidates) None)

-- the bounds of the stations of so many candidates (this project's own)
pub record AreStations (count : ℕ) (stations : List (Option ℕ)) (prices : List ℕ) : Type 0 where
  pub each_candidate : length stations ≡ count
  pub in_range : All (λ station. ForSome station (λ k. k < length prices)) stations
  pub few : length prices ≤ 1000
  pub price : All (λ price. price ≤ 1000000000) prices

-- the bounds of a limit of a network (this project's own)
pub record IsLimit (network : NetworkOf) (limit : LimitOf) : Type 0 where
  pub bounded : IsLoad (length network.unknowns) network.candidates limit.alpha limit.squares
  pub owner : ForSome limit.owner (λ owner. owner < length network.candidates)
  pub unowned : IsTrue (is_point_limit limit.kind) → IsNone limit.owner

-- The bounds of a network (this project's own): its counts, those of its candidates, limits and stations,
-- and that at most one axis or height limit loads each unknown.
pub record IsNetwork (network : NetworkOf) : Type 0 where
  pub unknowns : length network.unknowns ≤ 64
  pub candidates : length network.candidates ≤ 256
  pub rows : sum_by (λ candidate. length candidate.rows) network.candidates ≤ 512
  pub limits : length network.limits ≤ 20000
  pub each_candidate : All (IsCandidate (length network.unknowns)) network.candidates
  pub each_limit : All (IsLimit network) network.limits
  pub one_limit : (i : ℕ) → count_by (λ limit. is_point_limit limit.kind && int_lt (pos 0) (load limit.squares (unit_at i))) network.limits ≤ 1
  pub stations : AreStations (length network.candidates) network.stations network.station_prices
