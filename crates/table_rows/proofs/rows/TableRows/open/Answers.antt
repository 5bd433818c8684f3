use Rattle.table_rows.proofs.ReadingFacts.{rows-start}
use Rattle.table_rows.proofs.rows.TableRows.open.Goals as goal

pub returns : goal.returns
returns c = rows-start _ _ c.args.bytes.now c.from_reader-reader.ensures.state c.from_reader-reader.ensures.source
