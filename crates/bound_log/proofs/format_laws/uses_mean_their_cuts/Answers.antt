use Rattle.std.proofs.Common.{refl}
use Rattle.bound_log.proofs.UseRuleLemmas.{dual_lacks, dual_means, use_lacks, use_means}
use Rattle.bound_log.proofs.format_laws.uses_mean_their_cuts.Goals as goal

pub returns-clause-cut : goal.returns-clause-cut
returns-clause-cut c = use_means

pub returns-clause-dual : goal.returns-clause-dual
returns-clause-dual c = dual_means

pub returns-clause-no_cut : goal.returns-clause-no_cut
returns-clause-no_cut c = use_lacks

pub returns-clause-no_dual : goal.returns-clause-no_dual
returns-clause-no_dual c = dual_lacks

pub returns-clause-split : goal.returns-clause-split
returns-clause-split c = λ cuts candidate. refl

pub returns-clause-cost : goal.returns-clause-cost
returns-clause-cost c = λ cuts. refl

pub returns-clause-pivot : goal.returns-clause-pivot
returns-clause-pivot c = λ cuts limit. refl
