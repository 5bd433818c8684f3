use Rattle.limit_stacks.specs.Kept.{IsVerdictsOf}
use Rattle.branch_bound.proofs.branch.shut_candidate.Given as goal

abbrev pub invariant-loop-limit : goal.invariant-loop-limit
invariant-loop-limit l = IsVerdictsOf l.fn.network l.verdicts
