use Rattle.whole_algebra.proofs.chains.pivot_keeps_sizes.Goals as goal
use Rattle.whole_algebra.proofs.Sizes.{pivot_within}

-- src/chains.rt
pub returns : goal.returns
returns c = pivot_within
