use Rattle.std.proofs.Common.{◌≡◌, ◌++◌, List, ℕ, subst}
use Rattle.std.specs.Prelude.{OnOk}
use Rattle.trial.specs.Stacks.{session_of}
use Rattle.trial.specs.Surveyed.{survey_of}
use Rattle.trial.proofs.Lines.{said}
use Rattle.trial.proofs.script.put_line.Goals as goal

pub returns-clause-text : goal.returns-clause-text
returns-clause-text c =
    subst (λ (t : List ℕ). OnOk c.put_answer.result (c.put_answer.new.text.items ≡ c.args.text.now.items ++ t))
    (said (survey_of c.args.survey.now) (session_of c.args.session.now) (session_of c.obey.new.self) c.args.line.now c.read-command.result c.in_ok-answer.answer
    c.read-command.ensures.value c.in_ok-answer.ensures.answer c.in_ok-answer.ensures.after) c.put_answer.ensures
