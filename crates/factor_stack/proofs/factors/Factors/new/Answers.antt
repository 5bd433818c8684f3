use Rattle.lent_parts.proofs.Triangles.{length-IsTri}
use Rattle.factor_stack.proofs.factors.Factors.new.Goals as goal

pub returns : goal.returns
returns c = record {
  lower = c.in_ok-lower.ensures.rows;
  upper = c.in_ok-upper.ensures.rows;
  lower_stop = c.in_ok-lower.ensures.stop;
  upper_stop = c.in_ok-upper.ensures.stop;
  lower_gaps = length-IsTri c.args.n c.in_ok-lower_gaps.lower_gaps c.in_ok-lower_gaps.ensures.shape;
  upper_gaps = length-IsTri c.args.n c.in_ok-upper_gaps.upper_gaps c.in_ok-upper_gaps.ensures.shape;
}
