-- Where instruments are set up for candidates, and what that costs at each point. This project's own.
use Rattle.std.specs.Prelude.{ℕ, List, length, map, if◌then◌else◌, Option, Some, None, Vec}
use Rattle.std.specs.Global.{Global}
use Rattle.std.specs.List.{range_with_len}
use Rattle.geo_model.specs.Network.{NetworkOf, StationsOf}
use Rattle.point_tables.specs.declared.record.PointRecord.{PointRecord}
use Rattle.candidate_tables.specs.declared.record.CandidateRecord.{CandidateRecord}
use Rattle.candidate_tables.specs.Kinds.{rules_of}
use Rattle.station_tables.specs.declared.record.StationRecord.{StationRecord}
use Rattle.station_tables.specs.StationTable.{station_price}

-- the station of a candidate: its first point, where an instrument is set up there for its kind
unfoldable pub station_of : CandidateRecord → Option ℕ
station_of candidate = if (rules_of candidate.kind).occupies_station then Some candidate.from else None

-- the price of each point as a station, in the order of the points
unfoldable pub point_prices : List PointRecord → List StationRecord → List ℕ
point_prices points stations = map (station_price stations) (range_with_len 0 (length points))

-- the station of each candidate that has one, and the price of each point as a station
abbrev pub stations_on : List PointRecord → List CandidateRecord → List StationRecord → StationsOf
stations_on points candidates stations = record {
  of_candidates = map station_of candidates;
  prices = point_prices points stations;
}

-- two vectors as such stations and prices
abbrev pub stations_seen : Vec (Option ℕ) Global × Vec ℕ Global → StationsOf
stations_seen made = record { of_candidates = made.0.items; prices = made.1.items }

-- a network with these stations and prices in place of its own
abbrev pub with_stations : NetworkOf → StationsOf → NetworkOf
with_stations network stations = record network { stations = stations.of_candidates; station_prices = stations.prices }
