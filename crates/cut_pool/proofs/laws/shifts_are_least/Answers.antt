use Rattle.cut_pool.proofs.Shifts.{cut_shift-least}
use Rattle.cut_pool.proofs.laws.shifts_are_least.Goals as goal

pub returns : goal.returns
returns c = cut_shift-least
