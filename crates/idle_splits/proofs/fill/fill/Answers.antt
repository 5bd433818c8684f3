use Rattle.std.proofs.Common.{◌∙◌, sym}
use Rattle.geo_model.proofs.PlanLemmas.{IsWithin-length}
use Rattle.idle_splits.proofs.Filled.{inner_plan}
use Rattle.idle_splits.proofs.fill.fill.Goals as goal

pub returns-then-weight-bound-clause-plan : goal.returns-then-weight-bound-clause-plan
returns-then-weight-bound-clause-plan c = inner_plan c.args.node.now c.copy_into.new.room c.requires.within c.copy_into.ensures

pub returns-in_err-get-clause-plan : goal.returns-in_err-get-clause-plan
returns-in_err-get-clause-plan c = inner_plan c.args.node.now c.copy_into.new.room c.requires.within c.copy_into.ensures

pub fill_up-requires-clause-upper : goal.fill_up-requires-clause-upper
fill_up-requires-clause-upper c = sym (IsWithin-length c.args.node.now.inside c.args.node.now.upper c.requires.within) ∙ c.requires.inside

pub fill_up-requires-clause-plan : goal.fill_up-requires-clause-plan
fill_up-requires-clause-plan c = inner_plan c.args.node.now c.copy_into.new.room c.requires.within c.copy_into.ensures
