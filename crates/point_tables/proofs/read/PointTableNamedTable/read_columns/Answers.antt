use Rattle.point_tables.proofs.RecordFacts.{read-point}
use Rattle.point_tables.proofs.read.PointTableNamedTable.read_columns.Goals as goal

pub returns-in-Ok-clause-value : goal.returns-in-Ok-clause-value
returns-in-Ok-clause-value c = (c.in-Ok.ensures.0, read-point c.args.row.now c.args.name c.in-Ok.columns c.requires.name c.in-Ok.ensures.1)
