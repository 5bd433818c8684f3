use Rattle.std.specs.Prelude.{[], flat_map}
use Rattle.log_migrate.specs.FirstUse.{cuts_used}
use Rattle.log_migrate.proofs.LawLemmas.{needed_distinct, needed_used, used_needed}
use Rattle.log_migrate.proofs.LineLemmas.{lines_names}
use Rattle.log_migrate.proofs.NumberLemmas.{same_cut}
use Rattle.log_migrate.proofs.laws.cuts_are_named_once.Goals as goal

pub returns-clause-named : goal.returns-clause-named
returns-clause-named c = λ lines. lines_names [] lines

pub returns-clause-used : goal.returns-clause-used
returns-clause-used c = λ lines cut. (needed_used (flat_map cuts_used lines) cut, used_needed (flat_map cuts_used lines) cut)

pub returns-clause-once : goal.returns-clause-once
returns-clause-once c = λ lines. needed_distinct (flat_map cuts_used lines)

pub returns-clause-same : goal.returns-clause-same
returns-clause-same c = λ a b. same_cut a b
