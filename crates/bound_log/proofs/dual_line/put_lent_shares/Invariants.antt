use Rattle.bound_log.specs.CutSpelling.{shares_text}
use Rattle.bound_log.proofs.CutSpellLemmas.{Put}
use Rattle.bound_log.proofs.dual_line.put_lent_shares.Given as goal

abbrev pub invariant-shares : goal.invariant-shares
invariant-shares l = Put l.initial.out.items (shares_text l.initial.shares) l.out.items (shares_text l.shares)
