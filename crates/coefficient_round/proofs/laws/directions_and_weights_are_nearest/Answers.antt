use Rattle.geo_base.proofs.Rounding.{IsNearest-unique}
use Rattle.coefficient_round.proofs.Bounds.{direction_coefficient-IsNearest, direction_coefficient-size, weight_for-IsNearest, weight_for-size}
use Rattle.coefficient_round.proofs.laws.directions_and_weights_are_nearest.Goals as goal

pub returns-clause-direction : goal.returns-clause-direction
returns-clause-direction c = direction_coefficient-IsNearest

pub returns-clause-direction_size : goal.returns-clause-direction_size
returns-clause-direction_size c = direction_coefficient-size

pub returns-clause-weight : goal.returns-clause-weight
returns-clause-weight c = weight_for-IsNearest

pub returns-clause-weight_size : goal.returns-clause-weight_size
returns-clause-weight_size c u least most = let size = weight_for-size u least most in (size.least, size.most)

pub returns-clause-only : goal.returns-clause-only
returns-clause-only c = IsNearest-unique
