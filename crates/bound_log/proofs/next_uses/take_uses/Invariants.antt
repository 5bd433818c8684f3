use Rattle.lent_parts.specs.Pieces.{words_of}
use Rattle.bound_log.proofs.UseLemmas.{use_kind}
use Rattle.bound_log.proofs.ItemLemmas.{Took}
use Rattle.bound_log.proofs.next_uses.take_uses.Given as goal

abbrev pub invariant-uses : goal.invariant-uses
invariant-uses l = Took use_kind l.count l.left (words_of l.initial.words) (words_of l.words)

abbrev pub decreases-uses : goal.decreases-uses
decreases-uses l = l.left
