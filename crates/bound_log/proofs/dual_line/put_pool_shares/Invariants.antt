use Rattle.std.proofs.Common.{drop}
use Rattle.bound_log.specs.CutSpelling.{shares_text}
use Rattle.bound_log.specs.DualText.{texts_of_shares}
use Rattle.bound_log.proofs.CutSpellLemmas.{Put}
use Rattle.bound_log.proofs.dual_line.put_pool_shares.Given as goal

abbrev pub invariant-loop-share : goal.invariant-loop-share
invariant-loop-share l = Put l.initial.out.items (shares_text (texts_of_shares l.pool l.shares)) l.out.items (shares_text (texts_of_shares l.pool (drop l.share-index l.shares)))
