use Rattle.std.proofs.Common.{drop}
use Rattle.bound_log.specs.CutSpelling.{pairs_text}
use Rattle.bound_log.specs.CutText.{moves_from}
use Rattle.bound_log.proofs.CutSpellLemmas.{Put}
use Rattle.bound_log.proofs.cut_line.put_moves.Given as goal

abbrev pub invariant-loop-i : goal.invariant-loop-i
invariant-loop-i l = Put l.initial.out.items (pairs_text (moves_from 0 l.entries)) l.out.items (pairs_text (moves_from l.i (drop l.i l.entries)))
