use Rattle.gen_records.proofs.CountFacts.{drawn-below}
use Rattle.gen_records.proofs.counts.draws_are_below_their_bounds.Goals as goal

pub returns : goal.returns
returns c = drawn-below
