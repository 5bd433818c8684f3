use Rattle.gen_law.proofs.Squares.{rest_bears}
use Rattle.gen_law.proofs.numbers.rest_bears_row.Goals as goal

pub returns : goal.returns
returns c = rest_bears
