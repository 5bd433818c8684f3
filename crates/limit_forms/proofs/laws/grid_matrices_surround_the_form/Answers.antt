use Rattle.limit_forms.proofs.GridVerdicts.{lower_below, upper_above}
use Rattle.limit_forms.proofs.laws.grid_matrices_surround_the_form.Goals as goal

pub returns-clause-below : goal.returns-clause-below
returns-clause-below c = lower_below

pub returns-clause-above : goal.returns-clause-above
returns-clause-above c = upper_above
