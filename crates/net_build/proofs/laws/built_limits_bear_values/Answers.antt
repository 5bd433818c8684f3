use Rattle.net_build.proofs.ValueFacts.{network-bears}
use Rattle.net_build.proofs.laws.built_limits_bear_values.Goals as goal

pub returns : goal.returns
returns c = network-bears
