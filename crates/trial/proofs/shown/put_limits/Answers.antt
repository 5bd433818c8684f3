use Rattle.std.proofs.Common.{◌<◌, length, ap, arith}
use Rattle.factor_stack.proofs.Changes.{some_at}
use Rattle.trial.specs.Surveyed.{survey_of}
use Rattle.trial.specs.TrialText.{limit_line}
use Rattle.trial.proofs.Texts.{flat_map-grows}
use Rattle.trial.proofs.shown.put_limits.Goals as goal

pub limits-preserved : goal.limits-preserved
limits-preserved c =
    let limits = c.args.survey.now.network.now.limits in
    let inside : c.limits.number < length c.args.survey.now.network.now.limits = omega (arith, ap length c.limits-number-end.ensures.value) in
    let found = some_at limits c.limits.number inside in
    flat_map-grows (limit_line (survey_of c.args.survey.now) c.args.session.now.plan) limits c.limits.number found.0 c.args.text.now.items c.limits.text.items c.put_limit.new.text.items found.1
    c.limits.invariant (c.in_ok-put_limit.ensures found.0 found.1)
