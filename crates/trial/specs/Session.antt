-- A session: a plan that changes, one candidate at a time, and goes back. This project's own.
use Rattle.std.specs.Prelude.{◌≡◌, ℕ, ◌+◌, ◌-◌, nat_lt, Bool, true, false, if◌then◌else◌, List, [], ◌∷◌, ◌++◌, length, take, get_or, slice_set, replicate, Option, Some, None}
use Rattle.std.specs.Bool.{beq}
use Rattle.trial.specs.declared.command.SessionCommand.{SessionCommand}
use Rattle.trial.specs.declared.command.SessionCommand.TheVariants.{Change, Undo, Show, Unknown}
use Rattle.trial.specs.declared.answer.Reply.{Reply}
use Rattle.trial.specs.declared.answer.Reply.TheVariants as answer

-- the plan; the plans before the changes that aren't taken back, the oldest first;
-- and how often a plan was shown
pub record SessionOf : Type 0 where
  pub plan : List Bool
  pub before : List (List Bool)
  pub shows : ℕ

-- at first the plan of no candidate, of so many
abbrev pub first_session : ℕ → SessionOf
first_session candidates = record { plan = replicate candidates false; before = []; shows = 0 }

-- whether a plan chooses a candidate
abbrev pub is_chosen : SessionOf → ℕ → Bool
is_chosen session candidate = get_or session.plan candidate false

-- ---- answers

-- .. to a change: it can be made where a candidate has the name, isn't chosen or left out already,
-- and fewer than 32 changes aren't taken back
abbrev pub change_answer : SessionOf → Option ℕ → Bool → Reply
change_answer session None chosen = answer.NoCandidate
change_answer session (Some candidate) chosen =
    if beq (is_chosen session candidate) chosen then (if chosen then answer.TakenAlready else answer.NotTaken)
    else if nat_lt (length session.before) 32 then answer.Done
    else answer.TooDeep

-- .. to an undo: there is a change to take back
abbrev pub undo_answer : List (List Bool) → Reply
undo_answer [] = answer.NothingToUndo
undo_answer (plan ∷ plans) = answer.Done

-- .. to a show: fewer than 256 came before
abbrev pub show_answer : ℕ → Reply
show_answer shows = if nat_lt shows 256 then answer.Shown else answer.TooManyShows

abbrev pub answer_to : SessionOf → SessionCommand → Reply
answer_to session (Change candidate chosen) = change_answer session candidate chosen
answer_to session Undo = undo_answer session.before
answer_to session Show = show_answer session.shows
answer_to session Unknown = answer.NotACommand

-- ---- the session after a command

-- the plan changes, and the one before it is kept
abbrev pub changed : SessionOf → Option ℕ → Bool → SessionOf
changed session None chosen = session
changed session (Some candidate) chosen = record {
  plan = slice_set session.plan candidate chosen;
  before = session.before ++ session.plan ∷ [];
  shows = session.shows;
}

-- the plan before the latest change is the plan again
abbrev pub undone : SessionOf → SessionOf
undone session = record {
  plan = get_or session.before (length session.before - 1) session.plan;
  before = take (length session.before - 1) session.before;
  shows = session.shows;
}

-- one more plan was shown
abbrev pub shown : SessionOf → SessionOf
shown session = record { plan = session.plan; before = session.before; shows = session.shows + 1 }

-- .. that is done
abbrev pub after_done : SessionOf → SessionCommand → SessionOf
after_done session (Change candidate chosen) = changed session candidate chosen
after_done session Undo = undone session
after_done session Show = shown session
after_done session Unknown = session

abbrev pub is_done : Reply → Bool
is_done answer.Done = true
is_done answer.Shown = true
is_done _ = false

-- .. that may be refused: then the session is the same
abbrev pub after : SessionOf → SessionCommand → SessionOf
after session command = if is_done (answer_to session command) then after_done session command else session

-- ---- a law of them
-- an undo takes a change back
abbrev pub UndoTakesChangesBack : Type 0
UndoTakesChangesBack =
    (session : SessionOf) (candidate : Option ℕ) (chosen : Bool) → answer_to session (Change candidate chosen) ≡ answer.Done →
    after (after session (Change candidate chosen)) Undo ≡ session
