use Rattle.idle_splits.proofs.Falls.{IsIdle-falls}
use Rattle.idle_splits.proofs.laws.idleness_falls.Goals as goal

pub returns : goal.returns
returns c = λ network node lower higher less idle. IsIdle-falls network node lower higher less idle
