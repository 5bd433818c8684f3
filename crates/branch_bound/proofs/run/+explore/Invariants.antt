use Rattle.bound_log.specs.OpenCount.{open_count}
use Rattle.branch_bound.proofs.run.+explore.Given as goal

abbrev pub decreases-explore : goal.decreases-explore
decreases-explore g l = open_count l.node.now.inside l.node.now.upper
