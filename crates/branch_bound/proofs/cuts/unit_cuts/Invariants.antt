use Rattle.branch_bound.specs.Cuts.{IsSearchPool}
use Rattle.branch_bound.proofs.cuts.unit_cuts.Given as goal

abbrev pub invariant-loop-limit : goal.invariant-loop-limit
invariant-loop-limit l = IsSearchPool l.fn.network l.pool
