use Rattle.table_columns.proofs.StoredFacts.{all-at}
use Rattle.point_tables.specs.Accepted.{IsAccepted}
use Rattle.point_tables.proofs.points.Points.get.Goals as goal

pub returns-clause-accepted : goal.returns-clause-accepted
returns-clause-accepted c = all-at IsAccepted c.self.inside.records c.args.k c.get.result.now c.self.invariant.each c.get.ensures
