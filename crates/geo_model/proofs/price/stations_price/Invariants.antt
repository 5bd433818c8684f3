use Rattle.std.proofs.Common.{◌≡◌, ◌*◌, ◌≤◌}
use Rattle.geo_model.specs.Below.{sum_below}
use Rattle.geo_model.specs.Prices.{prices_of, station_part}
use Rattle.geo_model.proofs.price.stations_price.Given as goal

abbrev pub invariant-loop-k : goal.invariant-loop-k
invariant-loop-k l = record {
  value : l.sum ≡ sum_below (station_part (prices_of l.network) l.plan) l.k;
  size : l.sum ≤ l.k * 1000000000;
}
