use Rattle.std.proofs.Common.{◌∙◌, ap, length, refl}
use Rattle.station_tables.proofs.PriceFacts.{prices-long, stations-within}
use Rattle.station_tables.proofs.network.stations_of.Goals as goal

pub returns-clause-value : goal.returns-clause-value
returns-clause-value c = rw (c.in_ok-of_candidates.ensures, c.in_ok-prices.ensures.value) refl

pub returns-clause-bounds : goal.returns-clause-bounds
returns-clause-bounds c = λ are.
    stations-within c.args.points.now c.args.candidates.now c.in_ok-of_candidates.of_candidates.items c.in_ok-prices.prices.items are
    c.in_ok-of_candidates.ensures (ap length c.in_ok-prices.ensures.value ∙ prices-long c.args.points.now c.args.stations.now) c.in_ok-prices.ensures.few c.in_ok-prices.ensures.bound
