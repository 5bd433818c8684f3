use Rattle.gen_feasible.proofs.Generated.{generated-sizes}
use Rattle.gen_feasible.proofs.laws.generated_networks_are_of_one_size.Goals as goal

pub returns : goal.returns
returns c = generated-sizes
