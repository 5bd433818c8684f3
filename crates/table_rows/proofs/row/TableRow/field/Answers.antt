use Rattle.csv.specs.Records.{fields_of}
use Rattle.table_rows.proofs.RowsFacts.{text-at, text-within}
use Rattle.table_rows.proofs.row.TableRow.field.Goals as goal

pub unreachable-requires : goal.unreachable-requires
unreachable-requires c = text-within (fields_of c.self.inside.record) c.args.self.now c.args.place c.self.view_is (rw c.in-None.is at c.get.ensures.value) c.requires

pub returns : goal.returns
returns c =
    text-at (fields_of c.self.inside.record) c.args.self.now c.args.place c.in-Some.field.now c.text_of.result.now c.self.view_is (rw c.in-Some.is at c.get.ensures.value) c.text_of.ensures.value
