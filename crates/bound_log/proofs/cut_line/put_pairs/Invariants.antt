use Rattle.bound_log.specs.CutSpelling.{pairs_text}
use Rattle.bound_log.proofs.CutSpellLemmas.{Put}
use Rattle.bound_log.proofs.cut_line.put_pairs.Given as goal

abbrev pub invariant-pairs : goal.invariant-pairs
invariant-pairs l = Put l.initial.out.items (pairs_text l.initial.pairs) l.out.items (pairs_text l.pairs)
