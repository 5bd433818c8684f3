use Rattle.net_build.proofs.NetworkFacts.{network-bounded}
use Rattle.net_build.proofs.laws.built_networks_are_networks.Goals as goal

pub returns : goal.returns
returns c = network-bounded
