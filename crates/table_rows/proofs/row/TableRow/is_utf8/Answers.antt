use Rattle.std.proofs.Common.{sym, ◌∙◌}
use Rattle.std.specs.Str.{is_utf8}
use Rattle.table_rows.proofs.HeaderFacts.{all-agree, all-differ, no-text, some-text}
use Rattle.table_rows.proofs.row.TableRow.is_utf8.Goals as goal

pub returns-then-is_err : goal.returns-then-is_err
returns-then-is_err c =
    let other = no-text _ _ c.field.result.now c.from_utf8.result c.from_utf8.ensures.cases (sym c.is_err.ensures.value ∙ c.if-is_err.true) in
    all-differ is_utf8 c.args.self.now c.places.place c.field.result.now _ c.field.ensures c.places.invariant other

pub places-preserved : goal.places-preserved
places-preserved c =
    let text = some-text _ _ c.field.result.now c.from_utf8.result c.from_utf8.ensures.cases (sym c.is_err.ensures.value ∙ c.if-is_err.false) in
    all-agree is_utf8 c.args.self.now c.places.place c.field.result.now _ c.field.ensures c.places.invariant text
