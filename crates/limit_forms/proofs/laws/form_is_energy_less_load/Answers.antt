use Rattle.limit_forms.proofs.EnergyLoad.{form_is_energy_less}
use Rattle.limit_forms.proofs.laws.form_is_energy_less_load.Goals as goal

pub returns : goal.returns
returns c = form_is_energy_less
