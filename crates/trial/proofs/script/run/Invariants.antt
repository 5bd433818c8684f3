use Rattle.std.proofs.Common.{◌≡◌, ◌++◌}
use Rattle.trial.specs.Script.{bodies}
use Rattle.trial.specs.Stacks.{session_of, IsSessionOf}
use Rattle.trial.specs.Surveyed.{survey_of}
use Rattle.trial.specs.TrialText.{answers_from, trial_text}
use Rattle.trial.proofs.script.run.Given as goal

abbrev pub invariant-loop-line : goal.invariant-loop-line
invariant-loop-line l = record {
  made : IsSessionOf l.network l.session;
  text : l.text.items ++ answers_from (survey_of l.survey) (session_of l.session) (bodies l.line-iterator) ≡ trial_text (survey_of l.survey) l.script;
}
