use Rattle.std.proofs.Common.{◌≡◌, ◌*◌, ◌^◌, ◌≤◌}
use Rattle.std.specs.Prelude.{unsigned_abs}
use Rattle.geo_model.specs.Below.{int_sum_below}
use Rattle.geo_model.specs.Dual.{station_term}
use Rattle.geo_model.specs.Prices.{prices_of}
use Rattle.whole_algebra.specs.Matrices.{at}
use Rattle.reduced_sums.proofs.sums.stations_sum.Given as goal

abbrev pub invariant-loop-k : goal.invariant-loop-k
invariant-loop-k l = record {
  value : l.sum ≡ int_sum_below (station_term (prices_of l.network) l.divisor (at l.reduced) l.node) l.k;
  size : unsigned_abs l.sum ≤ l.k * (257 * 2 ^ 75);
}
