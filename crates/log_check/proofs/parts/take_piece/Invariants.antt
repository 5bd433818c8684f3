use Rattle.std.proofs.Common.{length, vec_len, vec_capacity}
use Rattle.log_check.specs.Walking.{Walks}
use Rattle.log_check.proofs.parts.take_piece.Given as goal

-- the lines so far were taken
abbrev pub invariant-loop-line : goal.invariant-loop-line
invariant-loop-line l = Walks l.fn.network l.fn.piece l.fn.judged l.fn.kept.items l.walk l.judged l.kept.items (vec_len l.kept) (vec_capacity l.kept)

abbrev pub decreases-loop-line : goal.decreases-loop-line
decreases-loop-line l = length l.walk
