use Rattle.whole_algebra.proofs.DiagonalLaws.{lower_diagonals, upper_diagonals}
use Rattle.whole_algebra.proofs.chains.diagonals_stay_low.Goals as goal

pub returns-clause-lower : goal.returns-clause-lower
returns-clause-lower c = lower_diagonals

pub returns-clause-upper : goal.returns-clause-upper
returns-clause-upper c = upper_diagonals
