use Rattle.limit_forms.proofs.GridRows.{lower_chain_low, upper_chain_low}
use Rattle.limit_forms.proofs.laws.grid_chains_stay_low.Goals as goal

pub returns-clause-lower : goal.returns-clause-lower
returns-clause-lower c = lower_chain_low

pub returns-clause-upper : goal.returns-clause-upper
returns-clause-upper c = upper_chain_low
