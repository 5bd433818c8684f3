use Rattle.gen_feasible.proofs.Tables.{tables-feasible}
use Rattle.gen_feasible.proofs.laws.generated_tables_are_feasible.Goals as goal

pub returns : goal.returns
returns c = tables-feasible
