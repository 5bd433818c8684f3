use Rattle.std.proofs.lemmas.Bool.{false≢true}
use Rattle.std.proofs.Common.{◌≡◌, ◌∙◌, ◌<◌, ◌≤◌, ℕ, List, length, get_or, ap, arith, sym}
use Rattle.geo_model.specs.Prices.{prices_of, station_part}
use Rattle.geo_model.proofs.BelowLemmas.{sum_below-none}
use Rattle.geo_model.proofs.PriceLemmas.{stations-more, stations-all, station_price-few}
use Rattle.geo_model.proofs.price.stations_price.Goals as goal
use Rattle.geo_model.proofs.price.stations_price.Goals.{then-uses_station, else-uses_station}

pub loop-k-init : goal.loop-k-init
loop-k-init c = record { value = sym (sum_below-none (station_part (prices_of c.args.network.now) c.args.plan.now)); size = omega arith }

pub loop-k-preserved : goal.loop-k-preserved
loop-k-preserved c =
    let network = c.args.network.now in
    let are = c.station_prices-prices.ensures.value in
    let inside : c.loop-k.k < length network.station_prices = rw (sym are) c.loop-k-test.true in
    let price = get_or c.station_prices-prices.result.now c.loop-k.k 0 in
    let here : price ≡ get_or network.station_prices c.loop-k.k 0 = ap (λ (l : List ℕ). get_or l c.loop-k.k 0) are in
    let few : price ≤ 1000000000 = rw are (station_price-few network c.loop-k.k c.station_prices-prices.ensures.bounds inside) in
    let more = stations-more network c.args.plan.now c.loop-k.k price c.uses_station.result c.loop-k.sum c.if-uses_station.sum here c.uses_station.ensures c.loop-k.invariant.value in
    elim c.if-uses_station.branch [
      | then-uses_station w ↦ record {
        value = more (λ _. omega arith) (λ left. absurd (false≢true (sym left ∙ w.if-uses_station.true)));
        size = omega arith;
      }
      | else-uses_station w ↦ record {
        value = more (λ uses. absurd (false≢true (sym w.if-uses_station.false ∙ uses))) (λ _. omega arith);
        size = omega arith;
      }
    ]

pub returns-clause-value : goal.returns-clause-value
returns-clause-value c =
    c.loop-k.invariant.value ∙ stations-all c.args.network.now c.args.plan.now c.loop-k.k (omega (arith, ap length c.station_prices-prices.ensures.value))
