use Rattle.net_build.proofs.GridFacts.{grids-small}
use Rattle.net_build.proofs.grid_law.built_grids_are_small.Goals as goal

pub returns : goal.returns
returns c = grids-small
