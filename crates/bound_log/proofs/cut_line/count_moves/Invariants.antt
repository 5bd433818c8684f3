use Rattle.std.proofs.Common.{◌≡◌, ◌+◌, ◌≤◌, length, drop}
use Rattle.bound_log.specs.CutText.{moves_from}
use Rattle.bound_log.proofs.cut_line.count_moves.Given as goal

abbrev pub invariant-loop-by : goal.invariant-loop-by
invariant-loop-by l = (l.count + length (moves_from l.by-index (drop l.by-index l.entries)) ≡ length (moves_from 0 l.entries)) × (l.count ≤ l.by-index)
