-- What a session is after a command.
use Rattle.std.specs.Prelude.{Some, None, take, get_or, slice_set}
use Rattle.std.proofs.lemmas.List.{get_or_push}
use Rattle.std.proofs.Math.Seq.{take-append_seam}
use Rattle.std.proofs.Common.{◌≡◌, ℕ, ◌<◌, Bool, true, if◌then◌else◌, List, [], ◌∷◌, ◌++◌, ◌-◌, length, refl, ap, ap₂, sym, ◌∙◌, arith, length-append}
use Rattle.trial.specs.declared.command.SessionCommand.{SessionCommand}
use Rattle.trial.specs.declared.command.SessionCommand.TheVariants.{Change, Undo}
use Rattle.trial.specs.declared.answer.Reply.{Reply}
use Rattle.trial.specs.declared.answer.Reply.TheVariants as answer
use Rattle.trial.specs.Session.{SessionOf, answer_to, after, after_done, changed, undone, is_done, undo_answer, UndoTakesChangesBack}

-- a command that is done
pub done : (session : SessionOf) (command : SessionCommand) (said : Reply) → answer_to session command ≡ said → is_done said ≡ true → after session command ≡ after_done session command
done session command said is so = ap (λ (b : Bool). if b then after_done session command else session) (ap is_done is ∙ so)

pub something_to_undo : (before : List (List Bool)) → 0 < length before → undo_answer before ≡ answer.Done
something_to_undo [] some = absurd (omega arith)
something_to_undo (plan ∷ plans) some = refl

-- ---- a change that is taken back
last_off : {X : Type 0} (xs : List X) (x : X) → take (length (xs ++ x ∷ []) - 1) (xs ++ x ∷ []) ≡ xs
last_off xs x = let size = length-append xs (x ∷ []) in let same : length (xs ++ x ∷ []) - 1 ≡ length xs = omega arith in ap (λ k. take k (xs ++ x ∷ [])) same ∙ take-append_seam xs (x ∷ [])

last_of : {X : Type 0} (xs : List X) (x d : X) → get_or (xs ++ x ∷ []) (length (xs ++ x ∷ []) - 1) d ≡ x
last_of xs x d = let size = length-append xs (x ∷ []) in let same : length (xs ++ x ∷ []) - 1 ≡ length xs = omega arith in
    get_or_push xs x d (length (xs ++ x ∷ []) - 1) (sym same)

gone_back : (session : SessionOf) (candidate : ℕ) (chosen : Bool) → undone (changed session (Some candidate) chosen) ≡ session
gone_back session candidate chosen =
    ap₂ (λ (plan : List Bool) (before : List (List Bool)). let s : SessionOf = record { plan = plan; before = before; shows = session.shows } in s)
    (last_of session.before session.plan (slice_set session.plan candidate chosen)) (last_off session.before session.plan)

pub undo_takes_changes_back : UndoTakesChangesBack
undo_takes_changes_back session None chosen is = absurd (cc)
undo_takes_changes_back session (Some candidate) chosen is =
    let later = changed session (Some candidate) chosen in
    let size = length-append session.before (session.plan ∷ []) in
    let some : 0 < length (changed session (Some candidate) chosen).before = omega arith in
    ap (λ (s : SessionOf). after s Undo) (done session (Change (Some candidate) chosen) answer.Done is refl)
    ∙ done later Undo answer.Done (something_to_undo later.before some) refl
    ∙ gone_back session candidate chosen
