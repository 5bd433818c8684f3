use Rattle.std.proofs.Common.{length}
use Rattle.log_check.specs.Writing.{Writes}
use Rattle.log_check.proofs.moves.write_moves.Given as goal

-- the pairs so far are written
abbrev pub invariant-pairs : goal.invariant-pairs
invariant-pairs l = Writes l.unknowns l.fn.cut.pairs l.pairs l.least l.x

abbrev pub decreases-pairs : goal.decreases-pairs
decreases-pairs l = length l.pairs
