use Rattle.std.proofs.Common.{ℕ, ◌<◌}
use Rattle.limit_stacks.specs.Kept.{IsVerdictsOf}
use Rattle.branch_bound.specs.Searched.{IsMetAt}
use Rattle.branch_bound.proofs.node_judgements.unmet_limit.Given as goal

abbrev pub invariant-loop-limit : goal.invariant-loop-limit
invariant-loop-limit l = record {
  verdicts : IsVerdictsOf l.fn.network l.verdicts;
  met : (k : ℕ) → k < l.limit → IsMetAt l.fn.network l.fn.plan k;
}
