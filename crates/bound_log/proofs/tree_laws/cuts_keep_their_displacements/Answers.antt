use Rattle.bound_log.proofs.MoveLemmas.{cut_line_allowed, cut_line_read, displaced-moves}
use Rattle.bound_log.proofs.tree_laws.cuts_keep_their_displacements.Goals as goal

pub returns-clause-displacement : goal.returns-clause-displacement
returns-clause-displacement c = displaced-moves

pub returns-clause-allowed : goal.returns-clause-allowed
returns-clause-allowed c = cut_line_allowed

pub returns-clause-read : goal.returns-clause-read
returns-clause-read c = cut_line_read
