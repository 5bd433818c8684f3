use Rattle.std.proofs.Common.{sym, ◌∙◌}
use Rattle.chain_step.specs.declared.side.Side.TheVariants.{Lower, Upper}
use Rattle.pivot_chain.specs.Judging.{lower_of, upper_of}
use Rattle.pivot_chain.proofs.Judged.{tall_lower_of, tall_upper_of}
use Rattle.factor_stack.proofs.Running.{not_begun}
use Rattle.factor_stack.proofs.Counted.{none_counted_yet}
use Rattle.factor_stack.proofs.compute.compute.Goals as goal

pub recompute-requires-clause-known : goal.recompute-requires-clause-known
recompute-requires-clause-known g c = record {
  lower = not_begun Lower (lower_of c.args.grids.now) c.args.factors.now.lower (c.requires.fresh.lower ∙ sym (tall_lower_of c.args.grids.now)) c.requires.fresh.lower_stop;
  upper = not_begun Upper (upper_of c.args.grids.now) c.args.factors.now.upper (c.requires.fresh.upper ∙ sym (tall_upper_of c.args.grids.now)) c.requires.fresh.upper_stop;
  lower_gaps = c.requires.fresh.lower_gaps ∙ sym c.requires.fresh.lower;
  upper_gaps = c.requires.fresh.upper_gaps ∙ sym c.requires.fresh.upper;
  counted = none_counted_yet c.args.factors.now c.requires.fresh.lower_stop c.requires.fresh.upper_stop;
}
