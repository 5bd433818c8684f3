use Rattle.limit_stacks.specs.Kept.{IsVerdictsOf}
use Rattle.limit_stacks.proofs.search_verdicts.SearchVerdicts.keep_certified.Given as goal

abbrev pub invariant-loop-limit : goal.invariant-loop-limit
invariant-loop-limit l = IsVerdictsOf l.fn.network l.self
