use Rattle.normal_matrix.proofs.PlanSteps.{network_entry-small, scaled_entry-small}
use Rattle.normal_matrix.proofs.laws.entries_are_small.Goals as goal

pub returns-clause-plan : goal.returns-clause-plan
returns-clause-plan c = network_entry-small

pub returns-clause-scaled : goal.returns-clause-scaled
returns-clause-scaled c = scaled_entry-small
