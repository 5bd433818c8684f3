use Rattle.std.proofs.Common.{◌≡◌, drop}
use Rattle.station_tables.specs.StationTable.{station_price}
use Rattle.station_tables.proofs.stations.Stations.price.Given as goal

abbrev pub invariant-records : goal.invariant-records
invariant-records l = station_price l.self l.point ≡ station_price (drop l.k l.self) l.point
