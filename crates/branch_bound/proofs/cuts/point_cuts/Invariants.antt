use Rattle.branch_bound.specs.Cuts.{HasPoints}
use Rattle.branch_bound.proofs.cuts.point_cuts.Given as goal

abbrev pub invariant-loop-unknown : goal.invariant-loop-unknown
invariant-loop-unknown l = HasPoints l.network l.pool l.unknown
