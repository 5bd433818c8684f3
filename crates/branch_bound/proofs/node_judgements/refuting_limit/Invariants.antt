use Rattle.std.proofs.Common.{ℕ, ◌<◌}
use Rattle.limit_stacks.specs.Kept.{IsVerdictsOf}
use Rattle.bound_log.specs.LogTree.{IsNodeRefutedBy}
use Rattle.branch_bound.proofs.node_judgements.refuting_limit.Given as goal

abbrev pub invariant-loop-limit : goal.invariant-loop-limit
invariant-loop-limit l = record {
  verdicts : IsVerdictsOf l.fn.network l.verdicts;
  none : (k : ℕ) → k < l.limit → IsNodeRefutedBy l.fn.network l.fn.node k → ⊥;
}
