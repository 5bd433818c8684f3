use Rattle.bound_log.proofs.PoolLemmas.{dual_line_allowed, dual_line_read, share_covers}
use Rattle.bound_log.proofs.tree_laws.duals_keep_their_shares.Goals as goal

pub returns-clause-covers : goal.returns-clause-covers
returns-clause-covers c = share_covers

pub returns-clause-read : goal.returns-clause-read
returns-clause-read c = dual_line_read

pub returns-clause-allowed : goal.returns-clause-allowed
returns-clause-allowed c = dual_line_allowed
