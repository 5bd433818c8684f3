use Rattle.bound_log.proofs.AllowedLemmas.{allowed_keeps, keeps_allowed}
use Rattle.bound_log.proofs.tree_laws.rules_say_what_is_allowed.Goals as goal

pub returns : goal.returns
returns c = λ network node line. (keeps_allowed network node line, allowed_keeps network node line)
