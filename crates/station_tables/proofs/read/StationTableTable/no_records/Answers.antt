use Rattle.table_columns.proofs.RecordFacts.{none-named}
use Rattle.station_tables.proofs.read.StationTableTable.no_records.Goals as goal

pub returns-clause-right : goal.returns-clause-right
returns-clause-right c = none-named _ _ _
