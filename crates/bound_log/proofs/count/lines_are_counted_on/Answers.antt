use Rattle.bound_log.proofs.CountLemmas.{counts_of-then}
use Rattle.bound_log.proofs.count.lines_are_counted_on.Goals as goal

pub returns : goal.returns
returns c = counts_of-then
