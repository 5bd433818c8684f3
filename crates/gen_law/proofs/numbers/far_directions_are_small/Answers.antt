use Rattle.gen_law.proofs.Coefficients.{far_direction-small}
use Rattle.gen_law.proofs.numbers.far_directions_are_small.Goals as goal

pub returns : goal.returns
returns c = far_direction-small
