use Rattle.std.specs.Prelude.{[]}
use Rattle.log_migrate.proofs.LineLemmas.{lines_nodes}
use Rattle.log_migrate.proofs.laws.numbers_stand_for_their_cuts.Goals as goal

pub returns : goal.returns
returns c = λ lines. lines_nodes [] lines
