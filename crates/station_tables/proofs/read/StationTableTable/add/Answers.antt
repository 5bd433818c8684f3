use Rattle.std.proofs.Common.{◌≡◌, ◌∙◌, ◌+◌, ◌≤◌, [], ◌∷◌, ◌++◌, Some, None, length, map, false, sym, ap, arith}
use Rattle.table_rows.specs.Faults.{first_broken}
use Rattle.table_columns.specs.Columns.{name_at}
use Rattle.table_columns.specs.Names.{is_among, place_of}
use Rattle.table_columns.proofs.RecordFacts.{at-field, named-push, record-few, same-names, same-number}
use Rattle.point_tables.specs.Columns.{shape_of}
use Rattle.candidate_tables.specs.CandidateTable.{known_point_rules, written_price, price_rules}
use Rattle.candidate_tables.specs.Places.{place_in}
use Rattle.station_tables.specs.declared.record.StationRecord.{StationRecord}
use Rattle.station_tables.specs.StationTable.{IsStationRecord, read_station, repeat_rules}
use Rattle.station_tables.proofs.StationFacts.{broken-point, broken-price, broken-repeat, broken-shape, repeat-is, station-name, station-read}
use Rattle.station_tables.proofs.read.StationTableTable.add.Goals as goal

pub returns-in-Some-clause-added : goal.returns-in-Some-clause-added
returns-in-Some-clause-added c = λ before is.
    let points = c.args.self.now.points.now in
    let number = same-number (read_station points) c.args.records.now before is c.len-number.result c.len-number.ensures.value in (
      rw (← number) (broken-shape points (c.len-number.result + 2) c.args.row.now (map name_at before) c.in-Some.kind
          (rw (← c.shape.ensures) (sym c.broken.ensures.kind ∙ c.in-Some.is))),
      number,
    )

pub returns-in-Err-clause-added : goal.returns-in-Err-clause-added
returns-in-Err-clause-added c = λ before is.
    let points = c.args.self.now.points.now in
    let number = same-number (read_station points) c.args.records.now before is c.len-number.result c.len-number.ensures.value in (
      rw (← number) (broken-point points (c.len-number.result + 2) c.args.row.now (map name_at before) c.in-Err.kind
          (rw (← c.shape.ensures) (sym c.broken.ensures.kind ∙ c.in_default.is))
          (at-field (λ t. first_broken (known_point_rules points t) ≡ Some c.in-Err.kind) c.args.row.now 0 c.field-text.result.now c.field-text.ensures c.in-Err.ensures.point)),
      number,
    )

pub returns-in-Err-new_name-clause-added : goal.returns-in-Err-new_name-clause-added
returns-in-Err-new_name-clause-added c = λ before is.
    let points = c.args.self.now.points.now in
    let number = same-number (read_station points) c.args.records.now before is c.len-number.result c.len-number.ensures.value in
    let names = same-names (read_station points) c.args.records.now before is (λ (s : StationRecord). s.name) (station-name points) in
    let twice =
    repeat-is c.field-text.result.now (map name_at before) (Some c.in-Err-new_name.kind) c.in-Ok.ensures.named
    (c.in-Err-new_name.ensures (map name_at before) (c.find.ensures.place ∙ ap (place_of c.field-text.result.now) names)) in (
      rw (← number) (broken-repeat points (c.len-number.result + 2) c.args.row.now (map name_at before) c.in-Err-new_name.kind
          (rw (← c.shape.ensures) (sym c.broken.ensures.kind ∙ c.in_default.is))
          (at-field (λ t. first_broken (known_point_rules points t) ≡ None) c.args.row.now 0 c.field-text.result.now c.field-text.ensures c.in-Ok.ensures.point.0)
          (at-field (λ t. first_broken (repeat_rules t (map name_at before)) ≡ Some c.in-Err-new_name.kind) c.args.row.now 0 c.field-text.result.now c.field-text.ensures twice)),
      number,
    )

pub returns-in-Err-read_price-clause-added : goal.returns-in-Err-read_price-clause-added
returns-in-Err-read_price-clause-added c = λ before is.
    let points = c.args.self.now.points.now in
    let number = same-number (read_station points) c.args.records.now before is c.len-number.result c.len-number.ensures.value in
    let names = same-names (read_station points) c.args.records.now before is (λ (s : StationRecord). s.name) (station-name points) in
    let new =
    repeat-is c.field-text.result.now (map name_at before) None c.in-Ok.ensures.named
    (c.in-Ok-new_name.ensures (map name_at before) (c.find.ensures.place ∙ ap (place_of c.field-text.result.now) names)).0 in (
      rw (← number) (broken-price points (c.len-number.result + 2) c.args.row.now (map name_at before) (Some c.in-Err-read_price.kind)
          (rw (← c.shape.ensures) (sym c.broken.ensures.kind ∙ c.in_default.is))
          (at-field (λ t. first_broken (known_point_rules points t) ≡ None) c.args.row.now 0 c.field-text.result.now c.field-text.ensures c.in-Ok.ensures.point.0)
          (at-field (λ t. first_broken (repeat_rules t (map name_at before)) ≡ None) c.args.row.now 0 c.field-text.result.now c.field-text.ensures new)
          (at-field (λ t. first_broken (price_rules t) ≡ Some c.in-Err-read_price.kind) c.args.row.now 1 c.field.result.now c.field.ensures c.in-Err-read_price.ensures.price)),
      number,
    )

pub push-requires-clause-few : goal.push-requires-clause-few
push-requires-clause-few c =
    let few = record-few (shape_of 1001 2) (c.len-number.result + 2) c.args.row.now (rw (← c.shape.ensures) (sym c.broken.ensures.kind ∙ c.in_default.is)) in
    omega (arith, few, c.len-number.ensures.value)

pub returns-clause-added : goal.returns-clause-added
returns-clause-added c = λ before is.
    let points = c.args.self.now.points.now in
    let number = same-number (read_station points) c.args.records.now before is c.len-number.result c.len-number.ensures.value in
    let names = same-names (read_station points) c.args.records.now before is (λ (s : StationRecord). s.name) (station-name points) in
    let name = c.in-Ok-new_name.ensures (map name_at before) (c.find.ensures.place ∙ ap (place_of c.field-text.result.now) names) in
    let new = repeat-is c.field-text.result.now (map name_at before) None c.in-Ok.ensures.named name.0 in (
      rw (← number) (broken-price points (c.len-number.result + 2) c.args.row.now (map name_at before) None
          (rw (← c.shape.ensures) (sym c.broken.ensures.kind ∙ c.in_default.is))
          (at-field (λ t. first_broken (known_point_rules points t) ≡ None) c.args.row.now 0 c.field-text.result.now c.field-text.ensures c.in-Ok.ensures.point.0)
          (at-field (λ t. first_broken (repeat_rules t (map name_at before)) ≡ None) c.args.row.now 0 c.field-text.result.now c.field-text.ensures new)
          (at-field (λ t. first_broken (price_rules t) ≡ None) c.args.row.now 1 c.field.result.now c.field.ensures c.in-Ok-read_price.ensures.price.0)),
      c.in_ok-push.ensures.ok
          ∙ ap (λ (added : StationRecord). c.args.records.now ++ added ∷ [])
          (station-read points c.args.row.now c.in_ok-name-in-Ok-new_name.name c.in-Ok.point c.in-Ok-read_price.price
          (at-field (λ t. c.in_ok-name-in-Ok-new_name.name ≡ t) c.args.row.now 0 c.field-text.result.now c.field-text.ensures (c.in_ok-name-in-Ok-new_name.ensures ∙ name.1.same))
          (at-field (λ t. c.in-Ok.point ≡ place_in points t) c.args.row.now 0 c.field-text.result.now c.field-text.ensures c.in-Ok.ensures.point.1.value)
          (at-field (λ t. c.in-Ok-read_price.price ≡ written_price t) c.args.row.now 1 c.field.result.now c.field.ensures c.in-Ok-read_price.ensures.price.1)),
    )

pub returns-clause-right : goal.returns-clause-right
returns-clause-right c =
    let few = record-few (shape_of 1001 2) (c.len-number.result + 2) c.args.row.now (rw (← c.shape.ensures) (sym c.broken.ensures.kind ∙ c.in_default.is)) in
    let size : length c.args.records.now + 2 ≤ 1001 = omega (arith, few, c.len-number.ensures.value) in
    let name = c.in-Ok-new_name.ensures (map (λ (s : StationRecord). s.name) c.args.records.now) c.find.ensures.place in
    let added : StationRecord = record { name = c.in_ok-name-in-Ok-new_name.name; point = c.in-Ok.point; price = c.in-Ok-read_price.price } in
    let other : is_among added.name (map (λ (s : StationRecord). s.name) c.args.records.now) ≡ false = rw (c.in_ok-name-in-Ok-new_name.ensures, name.1.same) name.1.other in
    named-push (λ (s : StationRecord). s.name) 1001 (IsStationRecord c.args.self.now.points.now) c.args.records.now c.push.new.self added size other
    (record { point = c.in-Ok.ensures.point.1.within; price = c.in-Ok-read_price.ensures.bound }) c.in_ok-push.ensures.ok
