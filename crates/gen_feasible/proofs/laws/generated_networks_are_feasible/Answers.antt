use Rattle.gen_feasible.proofs.Generated.{generated-feasible}
use Rattle.gen_feasible.proofs.laws.generated_networks_are_feasible.Goals as goal

pub returns : goal.returns
returns c = generated-feasible
