use Rattle.table_columns.proofs.RecordFacts.{none-named}
use Rattle.table_columns.proofs.named_table.ByNameTable.no_records.Goals as goal

pub returns-clause-right : goal.returns-clause-right
returns-clause-right g c = none-named _ _ _
