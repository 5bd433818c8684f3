use Rattle.std.proofs.Common.{◌++◌, List, ℕ, ap, ap₂, ◌∙◌}
use Rattle.lent_parts.specs.Pieces.{TextLineOf}
use Rattle.trial.specs.Script.{bodies}
use Rattle.trial.specs.Session.{SessionOf}
use Rattle.trial.specs.Stacks.{session_of}
use Rattle.trial.specs.Surveyed.{survey_of}
use Rattle.trial.specs.TrialText.{answers_from, trial_text}
use Rattle.trial.proofs.script.run.Goals as goal

pub loop-line-init : goal.loop-line-init
unfolding trial_text
loop-line-init c =
    let survey = survey_of (record { points = c.args.points; candidates = c.args.candidates; network = c.args.network }) in
    record {
      made = c.in_ok-session.ensures.made;
      text = ap (λ (t : List ℕ). t ++ answers_from survey (session_of c.in_ok-session.session) (bodies c.into_iter-line-iterator.result)) c.new-text.ensures.items
          ∙ ap₂ (λ (s : SessionOf) (lines : List TextLineOf). answers_from survey s (bodies lines)) c.in_ok-session.ensures.first (c.into_iter-line-iterator.ensures.into_iter_gives ∙ c.lines-line-items.ensures);
    }
