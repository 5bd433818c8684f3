use Rattle.std.proofs.Common.{◌*◌, ◌^◌, ◌<◌, to_z, length, arith, ap, refl, sym}
use mir.Syntax.{w128}
use Rattle.geo_model.specs.Dual.{station_term}
use Rattle.geo_model.specs.Prices.{prices_of}
use Rattle.geo_model.proofs.BelowLemmas.{int_sum_below-none}
use Rattle.whole_algebra.specs.Matrices.{at}
use Rattle.reduced_sums.proofs.DualSizes.{sum_step}
use Rattle.reduced_sums.proofs.sums.stations_sum.Goals as goal

pub loop-k-init : goal.loop-k-init
loop-k-init c =
    record {
      value = sym (int_sum_below-none (station_term (prices_of c.args.network.now) c.args.divisor (at c.args.reduced.now) c.args.node.now));
      size = omega arith;
    }

pub loop-k-preserved : goal.loop-k-preserved
loop-k-preserved c =
    let few : c.loop-k.k < 1000 = omega (arith, c.station_prices.ensures.bounds.stations.few, ap length c.station_prices.ensures.value) in
    let s = sum_step (station_term (prices_of c.args.network.now) c.args.divisor (at c.args.reduced.now) c.args.node.now) c.loop-k.k (257 * 2 ^ 75) c.station_term-sum.result (to_z w128 c.loop-k.sum-bits)
    _ (omega arith) (omega arith) c.loop-k.invariant.value c.loop-k.invariant.size c.station_term-sum.ensures.value c.station_term-sum.ensures.size refl in
    record { value = s.value; size = s.size }
