use Rattle.pivot_chain.proofs.Verdicts.{open_interval, open_step}
use Rattle.pivot_chain.proofs.laws.open_intervals_contain_zero.Goals as goal

pub returns-clause-interval : goal.returns-clause-interval
returns-clause-interval c = open_interval

pub returns-clause-step : goal.returns-clause-step
returns-clause-step c = open_step
