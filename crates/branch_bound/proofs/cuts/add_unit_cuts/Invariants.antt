use Rattle.branch_bound.specs.Cuts.{IsSearchPool}
use Rattle.branch_bound.proofs.cuts.add_unit_cuts.Given as goal

abbrev pub invariant-loop-unknown : goal.invariant-loop-unknown
invariant-loop-unknown l = IsSearchPool l.fn.network l.pool
