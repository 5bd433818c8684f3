use Rattle.gen_law.proofs.Energies.{distance_energy, direction_energy, angle_energy, difference_energy}
use Rattle.gen_law.proofs.rows.energies_by_kind.Goals as goal

pub returns-clause-distance : goal.returns-clause-distance
returns-clause-distance c = distance_energy

pub returns-clause-direction : goal.returns-clause-direction
returns-clause-direction c = direction_energy

pub returns-clause-angle : goal.returns-clause-angle
returns-clause-angle c = angle_energy

pub returns-clause-difference : goal.returns-clause-difference
returns-clause-difference c = difference_energy
