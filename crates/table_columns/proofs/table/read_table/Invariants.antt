use Rattle.std.proofs.Common.{length}
use Rattle.table_columns.proofs.TableFacts.{ReadSoFar}
use Rattle.table_columns.proofs.table.read_table.Given as goal

abbrev pub invariant-rows : goal.invariant-rows
invariant-rows g l = record {
  read : ReadSoFar (g.T.Table.asks l.table) (g.T.Table.value_of l.table) l.initial.rows l.rows (g.T.Table.seen l.records);
  right : g.T.Table.AreRight l.table (g.T.Table.seen l.records);
}

abbrev pub decreases-rows : goal.decreases-rows
decreases-rows g l = length l.rows
