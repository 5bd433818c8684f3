use Rattle.lent_parts.proofs.Triangles.{kept_shape}
use Rattle.lent_parts.proofs.tri.Tri.size.Goals as goal

pub returns-clause-shape : goal.returns-clause-shape
returns-clause-shape c = kept_shape c.self.inside.rows.items c.self.inside.at c.self.inside.held c.args.self.now c.self.invariant c.self.view_is
