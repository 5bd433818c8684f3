use Rattle.std.proofs.Common.{◌∙◌, ◌≤◌, ◌^◌, sym, ap, arith, length}
use Rattle.table_columns.proofs.StoredFacts.{all-at}
use Rattle.station_tables.specs.declared.record.StationRecord.{StationRecord}
use Rattle.station_tables.proofs.PriceFacts.{price-here, price-later, price-past}
use Rattle.station_tables.proofs.stations.Stations.price.Goals as goal

pub returns-then-station-point-clause-value : goal.returns-then-station-point-clause-value
returns-then-station-point-clause-value c =
    sym (c.records.invariant
    ∙ price-here c.args.self.now c.args.point c.records.k c.get-station.result.now (rw c.self.view_is at c.get-station.ensures) c.if-station-point.true)

pub returns-then-station-point-clause-bound : goal.returns-then-station-point-clause-bound
returns-then-station-point-clause-bound c =
    all-at (λ (station : StationRecord). station.price ≤ 10 ^ 9) c.self.inside.records c.records.k c.get-station.result.now c.self.invariant c.get-station.ensures

pub records-preserved : goal.records-preserved
records-preserved c =
    c.records.invariant ∙ price-later c.args.self.now c.args.point c.records.k c.get-station.result.now (rw c.self.view_is at c.get-station.ensures) c.if-station-point.false

pub returns-clause-value : goal.returns-clause-value
returns-clause-value c = sym (c.records.invariant ∙ price-past c.args.self.now c.args.point c.records.k (omega (arith, c.len-k-end.ensures.value, ap length c.self.view_is)))
