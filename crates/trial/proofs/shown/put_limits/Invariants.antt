use Rattle.std.proofs.Common.{◌≡◌, ◌++◌, take}
use Rattle.std.specs.Prelude.{flat_map}
use Rattle.trial.specs.Surveyed.{survey_of}
use Rattle.trial.specs.TrialText.{limit_line}
use Rattle.trial.proofs.shown.put_limits.Given as goal

abbrev pub invariant-limits : goal.invariant-limits
invariant-limits l = l.text.items ≡ l.fn.text.items ++ flat_map (limit_line (survey_of l.survey) l.session.plan) (take l.number l.survey.network.now.limits)
