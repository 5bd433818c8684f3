use Rattle.std.proofs.Common.{length, sym, ◌∙◌, subst}
use Rattle.chain_step.specs.declared.side.Side.TheVariants.{Lower, Upper}
use Rattle.pivot_chain.specs.Judging.{lower_of, upper_of}
use Rattle.pivot_chain.proofs.Judged.{small_lower_of, small_upper_of, tall_lower_of, tall_upper_of}
use Rattle.factor_stack.specs.Running.{HasRun}
use Rattle.factor_stack.proofs.ChainImages.{image_by_run}
use Rattle.factor_stack.proofs.Running.{kept_by_run}
use Rattle.factor_stack.proofs.compute.recompute.Goals as goal

pub returns-clause-lower : goal.returns-clause-lower
returns-clause-lower g c =
    image_by_run Lower (lower_of c.args.grids.now) c.run_from.new.factors.lower (small_lower_of c.args.grids.now c.candidates-bounds.ensures.bounds c.requires.made)
    (subst (λ k. HasRun Lower (lower_of c.args.grids.now) k c.run_from.new.factors.lower) (sym (tall_lower_of c.args.grids.now)) c.run_from.ensures.run.lower)

pub returns-clause-upper : goal.returns-clause-upper
returns-clause-upper g c =
    image_by_run Upper (upper_of c.args.grids.now) c.run_from.new.factors.upper (small_upper_of c.args.grids.now c.candidates-bounds.ensures.bounds c.requires.made)
    (subst (λ k. HasRun Upper (upper_of c.args.grids.now) k c.run_from.new.factors.upper) (sym (tall_upper_of c.args.grids.now)) c.run_from.ensures.run.upper)

pub returns-clause-held : goal.returns-clause-held
returns-clause-held g c =
    let n = length c.args.grids.now.network.now.unknowns in
    record {
      lower = kept_by_run Lower n n (lower_of c.args.grids.now) c.run_from.new.factors.lower (tall_lower_of c.args.grids.now) c.run_from.ensures.run.lower;
      upper = kept_by_run Upper n n (upper_of c.args.grids.now) c.run_from.new.factors.upper (tall_upper_of c.args.grids.now) c.run_from.ensures.run.upper;
      lower_gaps = c.run_from.ensures.run.lower_gaps ∙ (c.run_from.ensures.run.lower.places ∙ tall_lower_of c.args.grids.now);
      upper_gaps = c.run_from.ensures.run.upper_gaps ∙ (c.run_from.ensures.run.upper.places ∙ tall_upper_of c.args.grids.now);
    }
