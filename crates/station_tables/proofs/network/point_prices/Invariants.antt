use Rattle.std.proofs.Common.{◌≡◌, ◌≤◌, ◌^◌, map}
use Rattle.std.specs.Prelude.{All}
use Rattle.std.specs.List.{range_with_len}
use Rattle.station_tables.specs.StationTable.{station_price}
use Rattle.station_tables.proofs.network.point_prices.Given as goal

abbrev pub invariant-points : goal.invariant-points
invariant-points l = (l.prices.items ≡ map (station_price l.stations) (range_with_len 0 l.point)) × All (λ price. price ≤ 10 ^ 9) l.prices.items
