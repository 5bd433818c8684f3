use Rattle.std.proofs.Common.{◌∙◌, ◌≤◌, ◌^◌, ◌++◌, [], ◌∷◌, ℕ, List, ap, ap₂, sym, subst, length, arith}
use Rattle.std.specs.Prelude.{All}
use Rattle.std.proofs.lemmas.List.Elements.{All-push}
use Rattle.std.proofs.lemmas.List.FromFn.{map-range_with_len_more}
use Rattle.station_tables.specs.StationTable.{station_price}
use Rattle.station_tables.proofs.PriceFacts.{prices-are, prices-long}
use Rattle.station_tables.proofs.network.point_prices.Goals as goal

pub points-preserved : goal.points-preserved
points-preserved c = (
  c.in_ok-push.ensures.items
      ∙ ap₂ (λ (l : List ℕ) (x : ℕ). l ++ x ∷ []) c.points.invariant.0 c.price.ensures.value
      ∙ sym (map-range_with_len_more (station_price c.args.stations.now) 0 c.points.point c.points.point (omega arith)),
  subst (All (λ price. price ≤ 10 ^ 9)) (sym c.in_ok-push.ensures.items) (All-push (λ price. price ≤ 10 ^ 9) c.points.prices.items c.price.result c.points.invariant.1 c.price.ensures.bound),
)

pub returns-clause-value : goal.returns-clause-value
returns-clause-value c = prices-are c.args.points.now c.args.stations.now c.points.prices.items c.points.point c.points.invariant.0 (omega (arith, c.len-point-end.ensures.value))

pub returns-clause-few : goal.returns-clause-few
returns-clause-few c =
    let are = prices-are c.args.points.now c.args.stations.now c.points.prices.items c.points.point c.points.invariant.0 (omega (arith, c.len-point-end.ensures.value)) in
    let long = ap length are ∙ prices-long c.args.points.now c.args.stations.now in
    omega (arith, long, c.len-point-end.ensures.few, c.len-point-end.ensures.value)
