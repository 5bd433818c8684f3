use Rattle.design_rows.proofs.RowFacts.{rows-counted}
use Rattle.design_rows.proofs.laws.rows_are_counted.Goals as goal

pub returns : goal.returns
returns c = rows-counted
