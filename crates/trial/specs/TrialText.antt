-- The text of a session: an answer to each line of a script. Each line of the text ends with LF.
-- This project's own.
use Rattle.std.specs.Prelude.{ℕ, ℤ, Bool, true, if◌then◌else◌, List, [], ◌∷◌, ◌++◌, length, flat_map, codes}
use Rattle.std.specs.Fmt.{decimal}
use Rattle.std.specs.Option.{option_map_or}
use Rattle.text_num.specs.Whole.{whole_text}
use Rattle.geo_model.specs.Limit.{LimitOf}
use Rattle.geo_model.specs.Network.{NetworkOf}
use Rattle.geo_model.specs.Prices.{chooses, price_of}
use Rattle.geo_model.specs.declared.verdict.Verdict.{Verdict}
use Rattle.geo_model.specs.declared.verdict.Verdict.TheVariants.{Met, Refuted, Open}
use Rattle.lent_parts.specs.Pieces.{lines_of}
use Rattle.pivot_chain.specs.Verdict.{verdict_of}
use Rattle.limit_lines.specs.LimitText.{limit_text}
use Rattle.trial.specs.declared.answer.Reply.{Reply}
use Rattle.trial.specs.declared.answer.Reply.TheVariants as answer
use Rattle.trial.specs.Script.{bodies, session_command}
use Rattle.trial.specs.Session.{SessionOf, first_session, answer_to, after}

-- the names of points and candidates, in their order, and the network of both
pub record SurveyOf : Type 0 where
  pub points : List (List ℕ)
  pub candidates : List (List ℕ)
  pub network : NetworkOf

-- ---- a plan that is shown

-- an open verdict, at the end of a line: the step of its chain, and the interval there
abbrev pub open_verdict_text : ℕ → ℤ → ℤ → List ℕ
open_verdict_text step lo hi = codes ",open," ++ (decimal step ++ (codes "," ++ (whole_text lo ++ (codes "," ++ (whole_text hi ++ codes "\n")))))

-- a verdict, at the end of a line
unfoldable pub verdict_text : Verdict → List ℕ
verdict_text Met = codes ",met\n"
verdict_text Refuted = codes ",broken\n"
verdict_text (Open step lo hi) = open_verdict_text step lo hi

-- whether a limit is in force: it has no owner, or its owner is chosen
abbrev pub is_in_force : List Bool → LimitOf → Bool
is_in_force plan limit = option_map_or (chooses plan) limit.owner true

-- the line of a limit, where it is in force: its verdict is that of the plan, from nothing
unfoldable pub limit_line : SurveyOf → List Bool → LimitOf → List ℕ
limit_line survey plan limit =
    if is_in_force plan limit then limit_text survey.points survey.candidates limit.kind ++ verdict_text (verdict_of survey.network plan limit) else []

-- the price of a plan, and the lines of the limits in force, in their order
abbrev pub shown_plan_text : SurveyOf → List Bool → List ℕ
shown_plan_text survey plan =
    codes "cost " ++ (decimal (price_of survey.network plan) ++ (codes "\n" ++ flat_map (limit_line survey plan) survey.network.limits))

-- ---- answers

-- the text of an answer, of this plan
unfoldable pub answer_text : SurveyOf → List Bool → Reply → List ℕ
answer_text survey plan answer.Done = codes "ok\n"
answer_text survey plan answer.NoCandidate = codes "no candidate\n"
answer_text survey plan answer.TakenAlready = codes "taken already\n"
answer_text survey plan answer.NotTaken = codes "not taken\n"
answer_text survey plan answer.TooDeep = codes "too deep\n"
answer_text survey plan answer.NothingToUndo = codes "nothing to undo\n"
answer_text survey plan answer.Shown = shown_plan_text survey plan
answer_text survey plan answer.TooManyShows = codes "too many shows\n"
answer_text survey plan answer.NotACommand = codes "not a command\n"

-- the answer to a line
abbrev pub reply_text : SurveyOf → SessionOf → List ℕ → List ℕ
reply_text survey session line = answer_text survey session.plan (answer_to session (session_command survey.candidates line))

-- the answers to lines, from a session on
abbrev pub answers_from : SurveyOf → SessionOf → List (List ℕ) → List ℕ
answers_from survey session [] = []
answers_from survey session (line ∷ lines) =
    reply_text survey session line ++ answers_from survey (after session (session_command survey.candidates line)) lines

-- the answers to a script
unfoldable pub trial_text : SurveyOf → List ℕ → List ℕ
trial_text survey script = answers_from survey (first_session (length survey.network.candidates)) (bodies (lines_of script))
