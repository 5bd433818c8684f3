use Rattle.lent_parts.proofs.Triangles.{length-IsTri}
use Rattle.factor_stack.proofs.run.GridRows.new.Goals as goal

pub returns : goal.returns
returns c = record {
  lower = length-IsTri c.args.n c.in_ok-lower.lower c.in_ok-lower.ensures.shape;
  upper = length-IsTri c.args.n c.in_ok-upper.upper c.in_ok-upper.ensures.shape;
}
