use Rattle.coefficient_round.proofs.Ratio.{distance_coefficient-IsDistanceCoefficient, distance_coefficient-size, IsDistanceCoefficient-unique}
use Rattle.coefficient_round.proofs.laws.distance_coefficients_are_rounded.Goals as goal

pub returns-clause-rounded : goal.returns-clause-rounded
returns-clause-rounded c = distance_coefficient-IsDistanceCoefficient

pub returns-clause-size : goal.returns-clause-size
returns-clause-size c = distance_coefficient-size

pub returns-clause-only : goal.returns-clause-only
returns-clause-only c = IsDistanceCoefficient-unique
