use Rattle.std.proofs.Common.{◌≡◌, map, take}
use Rattle.station_tables.specs.Occupied.{station_of}
use Rattle.station_tables.proofs.network.candidate_stations.Given as goal

abbrev pub invariant-candidates : goal.invariant-candidates
invariant-candidates l = l.stations.items ≡ map station_of (take l.k l.candidates)
