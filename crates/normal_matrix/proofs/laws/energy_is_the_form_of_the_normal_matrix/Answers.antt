use Rattle.normal_matrix.proofs.EnergyForm.{energy_is_quad}
use Rattle.normal_matrix.proofs.laws.energy_is_the_form_of_the_normal_matrix.Goals as goal

pub returns : goal.returns
returns c = energy_is_quad
