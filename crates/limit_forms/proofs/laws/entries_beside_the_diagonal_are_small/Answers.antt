use Rattle.limit_forms.proofs.Beside.{lower_beside, upper_beside}
use Rattle.limit_forms.proofs.laws.entries_beside_the_diagonal_are_small.Goals as goal

pub returns-clause-lower : goal.returns-clause-lower
returns-clause-lower c = lower_beside

pub returns-clause-upper : goal.returns-clause-upper
returns-clause-upper c = upper_beside
