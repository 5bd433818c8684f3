use Rattle.bound_log.proofs.UseRuleLemmas.{dual_rules, name_allowed, name_rules, use_allowed, use_dual_allowed, use_rules}
use Rattle.bound_log.proofs.format_laws.named_lines_are_allowed_by_their_kinds.Goals as goal

pub returns-clause-name : goal.returns-clause-name
returns-clause-name c = λ network node cuts cut. (name_rules network cuts node cut, λ is. name_allowed network cuts node cut is.0 is.1)

pub returns-clause-cut : goal.returns-clause-cut
returns-clause-cut c = λ network node cuts number. (use_rules network cuts node number, λ is. use_allowed network cuts node number is.0 is.1)

pub returns-clause-dual : goal.returns-clause-dual
returns-clause-dual c = λ network node cuts divisor uses. (dual_rules network cuts node divisor uses, λ is. use_dual_allowed network cuts node divisor uses is.0 is.1)
