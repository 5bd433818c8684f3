-- The lines of limits, and the answers to lines.
use Rattle.std.proofs.Common.{◌≡◌, ℕ, zero, suc, Bool, true, false, if◌then◌else◌, List, [], ◌∷◌, ◌++◌, ◌↔◌, IsTrue, refl, ap, ap₂, sym, ◌∙◌, get_or, Some, None, nat_lt, subst, length, ◌≢◌}
use Rattle.std.specs.Bool.{beq}
use Rattle.std.specs.Prelude.{Option, slice_get}
use Rattle.std.specs.Option.{ForSome, option_map_or}
use Rattle.std.proofs.lemmas.Option.{get_or_from_slice_get}
use Rattle.geo_model.specs.Limit.{LimitOf, IsInForce}
use Rattle.geo_model.specs.Prices.{chooses}
use Rattle.pivot_chain.specs.Verdict.{verdict_of}
use Rattle.trial.specs.declared.command.SessionCommand.{SessionCommand}
use Rattle.trial.specs.declared.command.SessionCommand.TheVariants.{Change, Undo, Show, Unknown}
use Rattle.trial.specs.declared.answer.Reply.{Reply}
use Rattle.trial.specs.declared.answer.Reply.TheVariants.{Done, NoCandidate, TakenAlready, NotTaken, TooDeep, NothingToUndo, Shown, TooManyShows, NotACommand}
use Rattle.trial.specs.Script.{session_command}
use Rattle.trial.specs.Session.{SessionOf, is_chosen, answer_to, after, is_done, shown, change_answer, undo_answer}
use Rattle.limit_lines.specs.LimitText.{limit_text}
use Rattle.trial.specs.TrialText.{SurveyOf, is_in_force, limit_line, verdict_text, answer_text, reply_text}

-- ---- limits in force

chosen_at : (plan : List Bool) (i : ℕ) → get_or plan i false ≡ true → slice_get plan i ≡ Some true
chosen_at [] i is = absurd (cc)
chosen_at (x ∷ plan) zero is = ap Some is
chosen_at (x ∷ plan) (suc i) is = chosen_at plan i is

in_force : (plan : List Bool) (owner : Option ℕ) → option_map_or (chooses plan) owner true ≡ true → ForSome owner (λ o. slice_get plan o ≡ Some true)
in_force plan None is = λ o some. absurd (cc)
in_force plan (Some k) is = λ o some. let same : k ≡ o = cc in ap (slice_get plan) (sym same) ∙ chosen_at plan k is

told : (plan : List Bool) (owner : Option ℕ) → ForSome owner (λ o. slice_get plan o ≡ Some true) → option_map_or (chooses plan) owner true ≡ true
told plan None is = refl
told plan (Some k) is = get_or_from_slice_get plan k true false (is k refl)

not_told : (b : Bool) → (b ≡ true → ⊥) → b ≡ false
not_told true never = absurd (never refl)
not_told false never = refl

-- a limit that isn't in force has no line
pub no_line : (survey : SurveyOf) (plan : List Bool) (read limit : LimitOf) (said : Bool) → read ≡ limit → (IsTrue said ↔ IsInForce read plan) → said ≡ false → limit_line survey plan limit ≡ []
unfolding limit_line
no_line survey plan read limit said same tests is =
    let never : is_in_force plan limit ≡ true → ⊥ = λ forced. let said_so : said ≡ true = tests.1 (subst (λ (l : LimitOf). IsInForce l plan) (sym same) (in_force plan limit.owner forced)) in absurd (cc) in
    ap (λ (b : Bool). if b then limit_text survey.points survey.candidates limit.kind ++ verdict_text (verdict_of survey.network plan limit) else []) (not_told (is_in_force plan limit) never)

-- .. and one that is has its verdict
pub one_line : (survey : SurveyOf) (plan : List Bool) (read limit : LimitOf) (said : Bool) → read ≡ limit → (IsTrue said ↔ IsInForce read plan) → said ≡ true
    → limit_line survey plan limit ≡ limit_text survey.points survey.candidates read.kind ++ verdict_text (verdict_of survey.network plan limit)
unfolding limit_line
one_line survey plan read limit said same tests is =
    let forced : IsInForce limit plan = subst (λ (l : LimitOf). IsInForce l plan) same (tests.0 is) in
    ap (λ (b : Bool). if b then limit_text survey.points survey.candidates limit.kind ++ verdict_text (verdict_of survey.network plan limit) else []) (told plan limit.owner forced)
    ∙ ap (λ (l : LimitOf). limit_text survey.points survey.candidates l.kind ++ verdict_text (verdict_of survey.network plan limit)) (sym same)

-- ---- answers

-- all but one answer are the same of every plan
any_plan : (survey : SurveyOf) (p q : List Bool) (a : Reply) → a ≢ Shown → answer_text survey p a ≡ answer_text survey q a
unfolding answer_text
any_plan survey p q Done other = refl
any_plan survey p q NoCandidate other = refl
any_plan survey p q TakenAlready other = refl
any_plan survey p q NotTaken other = refl
any_plan survey p q TooDeep other = refl
any_plan survey p q NothingToUndo other = refl
any_plan survey p q Shown other = absurd (other refl)
any_plan survey p q TooManyShows other = refl
any_plan survey p q NotACommand other = refl

unshown : (same chosen few : Bool) → (if same then (if chosen then TakenAlready else NotTaken) else (if few then Done else TooDeep)) ≢ Shown
unshown true true few is = absurd (cc)
unshown true false few is = absurd (cc)
unshown false chosen true is = absurd (cc)
unshown false chosen false is = absurd (cc)

change_unshown : (session : SessionOf) (candidate : Option ℕ) (chosen : Bool) → change_answer session candidate chosen ≢ Shown
change_unshown session None chosen is = absurd (cc)
change_unshown session (Some candidate) chosen is = unshown (beq (is_chosen session candidate) chosen) chosen (nat_lt (length session.before) 32) is

undo_unshown : (before : List (List Bool)) → undo_answer before ≢ Shown
undo_unshown [] is = absurd (cc)
undo_unshown (plan ∷ plans) is = absurd (cc)

still : (session : SessionOf) (few : Bool) → (if is_done (if few then Shown else TooManyShows) then shown session else session).plan ≡ session.plan
still session true = refl
still session false = refl

-- a plan that is shown is the one before the command
same_plan : (survey : SurveyOf) (session : SessionOf) (command : SessionCommand)
    → answer_text survey (after session command).plan (answer_to session command) ≡ answer_text survey session.plan (answer_to session command)
same_plan survey session (Change candidate chosen) = any_plan survey _ _ _ (change_unshown session candidate chosen)
same_plan survey session Undo = any_plan survey _ _ _ (undo_unshown session.before)
same_plan survey session Show = ap (λ (p : List Bool). answer_text survey p (answer_to session Show)) (still session (nat_lt session.shows 256))
same_plan survey session Unknown = any_plan survey _ _ NotACommand (λ is. absurd (cc))

-- the answer to a line
pub said : (survey : SurveyOf) (session next : SessionOf) (line : List ℕ) (command : SessionCommand) (answer : Reply)
    → command ≡ session_command survey.candidates line → answer ≡ answer_to session command → next ≡ after session command → answer_text survey next.plan answer ≡ reply_text survey session line
said survey session next line command answer read is later =
    ap₂ (λ (s : SessionOf) (a : Reply). answer_text survey s.plan a) later is ∙ same_plan survey session command
    ∙ ap (λ (c : SessionCommand). answer_text survey session.plan (answer_to session c)) read
