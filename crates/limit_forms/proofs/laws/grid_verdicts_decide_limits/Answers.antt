use Rattle.limit_forms.proofs.GridVerdicts.{met_everywhere, refuted_somewhere}
use Rattle.limit_forms.proofs.laws.grid_verdicts_decide_limits.Goals as goal

pub returns-clause-met_everywhere : goal.returns-clause-met_everywhere
returns-clause-met_everywhere c = met_everywhere

pub returns-clause-refuted_somewhere : goal.returns-clause-refuted_somewhere
returns-clause-refuted_somewhere c = refuted_somewhere
