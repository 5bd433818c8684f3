use Rattle.lent_parts.specs.Pieces.{words_of}
use Rattle.bound_log.proofs.CutLemmas.{pair_kind}
use Rattle.bound_log.proofs.ItemLemmas.{Took}
use Rattle.bound_log.proofs.cut_words.take_pairs.Given as goal

abbrev pub invariant-pairs : goal.invariant-pairs
invariant-pairs l = Took pair_kind l.count l.left (words_of l.initial.words) (words_of l.words)

abbrev pub decreases-pairs : goal.decreases-pairs
decreases-pairs l = l.left
