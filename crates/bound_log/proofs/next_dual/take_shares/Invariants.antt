use Rattle.lent_parts.specs.Pieces.{words_of}
use Rattle.bound_log.proofs.DualLemmas.{share_kind}
use Rattle.bound_log.proofs.ItemLemmas.{Took}
use Rattle.bound_log.proofs.next_dual.take_shares.Given as goal

abbrev pub invariant-shares : goal.invariant-shares
invariant-shares l = Took share_kind l.count l.left (words_of l.initial.words) (words_of l.words)

abbrev pub decreases-shares : goal.decreases-shares
decreases-shares l = l.left
