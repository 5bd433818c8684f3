use Rattle.std.proofs.Common.{◌≡◌, ◌∙◌, ◌+◌, ◌<◌, ◌≤◌, ◌^◌, [], ◌∷◌, ◌++◌, Some, None, length, map, false, sym, ap, arith, rules}
use Rattle.table_rows.specs.Faults.{first_broken}
use Rattle.table_columns.specs.Columns.{name_at, name_rules}
use Rattle.table_columns.specs.Names.{is_among, place_of}
use Rattle.table_columns.proofs.RecordFacts.{at-field, broken-columns, broken-name, broken-record, named-push, record-few, same-names, same-number}
use Rattle.table_columns.proofs.named_table.ByNameTable.add.Goals as goal

pub returns-in-Some-clause-added : goal.returns-in-Some-clause-added
returns-in-Some-clause-added g c = λ before is.
    let asks = g.T.NamedTable.asks c.args.self.now.table.now in
    let number = same-number (g.T.NamedTable.value_of c.args.self.now.table.now) c.args.records.now before is c.len-number.result c.len-number.ensures.value in
    (rw (← number) (broken-record asks (c.len-number.result + 2) c.args.row.now (map name_at before) c.in-Some.kind (rw (← c.shape.ensures.value) (sym c.broken.ensures.kind ∙ c.in-Some.is))), number)

pub returns-in-Err-clause-added : goal.returns-in-Err-clause-added
returns-in-Err-clause-added g c = λ before is.
    let asks = g.T.NamedTable.asks c.args.self.now.table.now in
    let value_of = g.T.NamedTable.value_of c.args.self.now.table.now in
    let number = same-number value_of c.args.records.now before is c.len-number.result c.len-number.ensures.value in
    let names = same-names value_of c.args.records.now before is g.T.Record.NamedRecord.name_of (g.met.T.NamedTable.named c.args.self.now.table.now) in
    let name : first_broken (name_rules asks.name c.field-text.result.now (map name_at before)) ≡ Some c.in-Err.kind =
    rw (← c.name_kinds.ensures) (c.in-Err.ensures (map name_at before) (c.find.ensures.place ∙ ap (place_of c.field-text.result.now) names)) in (
      rw (← number) (broken-name asks (c.len-number.result + 2) c.args.row.now (map name_at before) c.in-Err.kind
          (rw (← c.shape.ensures.value) (sym c.broken.ensures.kind ∙ c.in_default.is))
          (at-field (λ t. first_broken (name_rules asks.name t (map name_at before)) ≡ Some c.in-Err.kind) c.args.row.now 0 c.field-text.result.now c.field-text.ensures name)),
      number,
    )

pub returns-in-Err-read_columns-clause-added : goal.returns-in-Err-read_columns-clause-added
returns-in-Err-read_columns-clause-added g c = λ before is.
    let asks = g.T.NamedTable.asks c.args.self.now.table.now in
    let value_of = g.T.NamedTable.value_of c.args.self.now.table.now in
    let number = same-number value_of c.args.records.now before is c.len-number.result c.len-number.ensures.value in
    let names = same-names value_of c.args.records.now before is g.T.Record.NamedRecord.name_of (g.met.T.NamedTable.named c.args.self.now.table.now) in
    let name : first_broken (name_rules asks.name c.field-text.result.now (map name_at before)) ≡ None =
    rw (← c.name_kinds.ensures) (c.in-Ok.ensures (map name_at before) (c.find.ensures.place ∙ ap (place_of c.field-text.result.now) names)).0 in (
      rw (← number) (broken-columns asks (c.len-number.result + 2) c.args.row.now (map name_at before) (Some c.in-Err-read_columns.kind)
          (rw (← c.shape.ensures.value) (sym c.broken.ensures.kind ∙ c.in_default.is))
          (at-field (λ t. first_broken (name_rules asks.name t (map name_at before)) ≡ None) c.args.row.now 0 c.field-text.result.now c.field-text.ensures name)
          c.in-Err-read_columns.ensures.value),
      number,
    )

pub push-requires-clause-few : goal.push-requires-clause-few
push-requires-clause-few g c =
    let fits : c.shape.result.most < 2 ^ 16 = search rules in
    let few = record-few c.shape.result (c.len-number.result + 2) c.args.row.now (sym c.broken.ensures.kind ∙ c.in_default.is) in
    omega (arith, few, fits, c.len-number.ensures.value)

pub returns-clause-added : goal.returns-clause-added
returns-clause-added g c = λ before is.
    let asks = g.T.NamedTable.asks c.args.self.now.table.now in
    let value_of = g.T.NamedTable.value_of c.args.self.now.table.now in
    let number = same-number value_of c.args.records.now before is c.len-number.result c.len-number.ensures.value in
    let names = same-names value_of c.args.records.now before is g.T.Record.NamedRecord.name_of (g.met.T.NamedTable.named c.args.self.now.table.now) in
    let name : first_broken (name_rules asks.name c.field-text.result.now (map name_at before)) ≡ None =
    rw (← c.name_kinds.ensures) (c.in-Ok.ensures (map name_at before) (c.find.ensures.place ∙ ap (place_of c.field-text.result.now) names)).0 in (
      rw (← number) (broken-columns asks (c.len-number.result + 2) c.args.row.now (map name_at before) None
          (rw (← c.shape.ensures.value) (sym c.broken.ensures.kind ∙ c.in_default.is))
          (at-field (λ t. first_broken (name_rules asks.name t (map name_at before)) ≡ None) c.args.row.now 0 c.field-text.result.now c.field-text.ensures name)
          c.in-Ok-read_columns.ensures.value.0),
      c.in_ok-push.ensures.ok ∙ ap (λ added. c.args.records.now ++ added ∷ []) c.in-Ok-read_columns.ensures.value.1,
    )

pub returns-clause-right : goal.returns-clause-right
returns-clause-right g c =
    let few = record-few c.shape.result (c.len-number.result + 2) c.args.row.now (sym c.broken.ensures.kind ∙ c.in_default.is) in
    let size : length c.args.records.now + 2 ≤ (g.T.NamedTable.asks c.args.self.now.table.now).shape.most =
    rw (← c.shape.ensures.value, ← c.len-number.ensures.value) few in
    let text : is_among c.field-text.result.now (map g.T.Record.NamedRecord.name_of c.args.records.now) ≡ false =
    (c.in-Ok.ensures (map g.T.Record.NamedRecord.name_of c.args.records.now) c.find.ensures.place).1.other in
    let other = at-field (λ t. is_among t (map g.T.Record.NamedRecord.name_of c.args.records.now) ≡ false) c.args.row.now 0 c.field-text.result.now c.field-text.ensures text in
    let name : g.T.Record.NamedRecord.name_of c.in-Ok-read_columns.added ≡ name_at c.args.row.now =
    ap g.T.Record.NamedRecord.name_of c.in-Ok-read_columns.ensures.value.1 ∙ g.met.T.NamedTable.named c.args.self.now.table.now c.args.row.now in
    named-push g.T.Record.NamedRecord.name_of (g.T.NamedTable.asks c.args.self.now.table.now).shape.most (g.T.NamedTable.IsRight c.args.self.now.table.now) c.args.records.now c.push.new.self c.in-Ok-read_columns.added size
    (rw name other) c.in-Ok-read_columns.ensures.right c.in_ok-push.ensures.ok
