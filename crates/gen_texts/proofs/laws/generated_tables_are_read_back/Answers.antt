use Rattle.gen_texts.proofs.ReadTables.{tables-read}
use Rattle.gen_texts.proofs.laws.generated_tables_are_read_back.Goals as goal

pub returns : goal.returns
returns c = tables-read
