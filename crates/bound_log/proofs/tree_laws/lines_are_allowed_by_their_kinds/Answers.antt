use Rattle.bound_log.proofs.AllowedLemmas.{cost_allowed, cut_allowed, cut_broken, dual_allowed, dual_at, pivot_allowed, pivot_refuted, split_allowed, split_open}
use Rattle.bound_log.proofs.tree_laws.lines_are_allowed_by_their_kinds.Goals as goal

pub returns-clause-split : goal.returns-clause-split
returns-clause-split c = λ network node candidate. (split_open network node candidate, split_allowed network node candidate)

pub returns-clause-cost : goal.returns-clause-cost
returns-clause-cost c = cost_allowed

pub returns-clause-pivot : goal.returns-clause-pivot
returns-clause-pivot c = λ network node number. (pivot_refuted network node number, pivot_allowed network node number)

pub returns-clause-cut : goal.returns-clause-cut
returns-clause-cut c = λ network node text. (cut_broken network node text, cut_allowed network node text)

pub returns-clause-dual : goal.returns-clause-dual
returns-clause-dual c = λ network node divisor shares. (dual_at network node divisor shares, dual_allowed network node divisor shares)
