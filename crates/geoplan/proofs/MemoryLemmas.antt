-- How the clauses on want of memory, on complete answers and on refusals follow from a run.
use Rattle.std.proofs.Common.{◌≡◌, ◌⊎◌, inl, inr, ℕ, List, [], refl, sym, ap, ◌∙◌, subst, arith, None, Some}
use Rattle.std.proofs.lemmas.List.{append-nil}
use Rattle.shelf_io.specs.Files.{Files}
use Rattle.shelf_io.specs.Faults.{Rose, KeepsFaults}
use Rattle.shelf_io.specs.States.{SinkState, ShelfState}
use Rattle.geoplan.specs.Codes.{code_of, after_failed_put}
use Rattle.geoplan.specs.CommandOf.{CommandOf, files_read, command_of, OnCommand}
use Rattle.geoplan.specs.Ends.{ends_of, EndsAtLog, EndsAtCuts, EndsUnwritten, Began, HasReport, HasRefusal, HasText}
use Rattle.geoplan.specs.Input.{InputOf, no_input, too_long_input, refused_input, built_input, input_of}
use Rattle.geoplan.specs.Outcomes.{RefusesTable, RefusesLength, FailsToRead, IsUnread}
use Rattle.geoplan.specs.Printing.{WritesPrefix, WritesAll}
use Rattle.geoplan.specs.Promises.{IsUnwritten, HasNoWriteFault, RanOut, IsComplete, IsRefusedBy}
use Rattle.geoplan.specs.Running.{Prints, IsWordsRefusal, Answered, IsRun}
use Rattle.geoplan.specs.Standing.{RunsOut, IsOutcomeOf}
use Rattle.geoplan.specs.declared.status.Status.{Status}
use Rattle.geoplan.specs.declared.status.Status.TheVariants as status
use Rattle.geoplan.proofs.AnswerLemmas.{by_command, stands_for, not_refused}
use Rattle.geoplan.proofs.CodeLemmas.{from_code, kept}
use Rattle.geoplan.proofs.CommandFacts.{facts_of}
use Rattle.geoplan.proofs.FaultLemmas.{silent_prefix, stands_keep}
use Rattle.geoplan.proofs.OwedFacts.{IsUnrefused, EndsAnswer}

-- ---- what an answer is, without its status

-- an outcome with a text; or no text, where a file was not written or memory ran out
data View (command : CommandOf) (before now : ShelfState) (begun : Status) (text : List ℕ) : Type 0 where
  reported : HasReport command before now text → View command before now begun text
  log_refused : EndsAtLog command before now text → View command before now begun text
  cuts_refused : EndsAtCuts command before now text → View command before now begun text
  table_refused : RefusesTable command before now text → begun ≡ status.TableRefused → View command before now begun text
  too_long : RefusesLength command before now text → begun ≡ status.FileTooLong → View command before now begun text
  unread : FailsToRead (files_read command) before now text → begun ≡ status.ReadFault → View command before now begun text
  unwritten : EndsUnwritten command before now → text ≡ [] → View command before now begun text
  ran_out : text ≡ [] → begun ≡ status.NoMemory → View command before now begun text

view : (command : CommandOf) (before now : ShelfState) (begun : Status) (text : List ℕ) → IsOutcomeOf command before now begun text → View command before now begun text
view command before now status.Found text ends = reported (inl ends)
view command before now status.NoPlan text ends = reported (inr (inl ends))
view command before now status.WordsRefused text never = absurd never
view command before now status.TableRefused text refused = table_refused refused refl
view command before now status.Undecided text ends = reported (inr (inr ends))
view command before now status.ReadFault text failed = unread failed refl
view command before now status.WriteFault text (ends, none) = unwritten ends none
view command before now status.NoMemory text out = ran_out out.printed refl
view command before now status.LogRefused text refused = log_refused refused
view command before now status.FileTooLong text refused = too_long refused refl
view command before now status.TooManyCuts text refused = cuts_refused refused

-- ---- status 7

on_command : (words : List (List ℕ)) (command : CommandOf) (before now : ShelfState) → command_of words ≡ Some command → (now.held ≡ before.held) ⊎ Began command before.held now.held → (now.held ≡ before.held) ⊎ OnCommand words (λ c. Began c before.held now.held)
on_command words command before now of (inl same) = inl same
on_command words command before now of (inr began) = inr (command, of, began)

answered_keeps : (words : List (List ℕ)) (before now : ShelfState) (begun : Status) (text : List ℕ) → Answered words before now begun text → (now.held ≡ before.held) ⊎ OnCommand words (λ command. Began command before.held now.held)
answered_keeps words before now begun text (inl (command, of, stands)) = on_command words command before now of (stands_keep command before now begun text stands)
answered_keeps words before now begun text (inr (none, refused)) = inl (ap (λ (s : ShelfState). s.held) refused.same)

-- there is no text, or that of an outcome
text_of : (command : CommandOf) (before now : ShelfState) (begun : Status) (text : List ℕ) → View command before now begun text → (text ≡ []) ⊎ (HasReport command before now text ⊎ HasRefusal command before now text)
text_of command before now begun text (reported report) = inr (inl report)
text_of command before now begun text (log_refused refused) = inr (inr (inl refused))
text_of command before now begun text (cuts_refused refused) = inr (inr (inr (inl refused)))
text_of command before now begun text (table_refused refused is) = inr (inr (inr (inr (inl refused))))
text_of command before now begun text (too_long refused is) = inr (inr (inr (inr (inr (inl refused)))))
text_of command before now begun text (unread failed is) = inr (inr (inr (inr (inr (inr failed)))))
text_of command before now begun text (unwritten ends none) = inl none
text_of command before now begun text (ran_out none is) = inl none

text_words : (words : List (List ℕ)) (before now : ShelfState) (begun : Status) (text : List ℕ) → command_of words ≡ None → now ≡ before → IsWordsRefusal begun text → (text ≡ []) ⊎ HasText words before now text
text_words words before now begun text none same (inl (e, is)) = inr (inr (record { none = none; same = same; printed = is }))
text_words words before now begun text none same (inr (e, is)) = inl is

text_command : (words : List (List ℕ)) (before now : ShelfState) (text : List ℕ) (command : CommandOf) → command_of words ≡ Some command → (text ≡ []) ⊎ (HasReport command before now text ⊎ HasRefusal command before now text) → (text ≡ []) ⊎ HasText words before now text
text_command words before now text command of (inl none) = inl none
text_command words before now text command of (inr outcome) = inr (inl (command, of, outcome))

text_answered : (words : List (List ℕ)) (before now : ShelfState) (begun : Status) (text : List ℕ) → Answered words before now begun text → (text ≡ []) ⊎ HasText words before now text
text_answered words before now begun text (inl (command, of, stands)) = text_command words before now text command of (text_of command before now begun text (view command before now begun text stands))
text_answered words before now begun text (inr (none, refused)) = text_words words before now begun text none refused.same refused.says

printed_prefix : (words : List (List ℕ)) (before now : ShelfState) (text : List ℕ) (sink sink_now : SinkState) → (text ≡ []) ⊎ HasText words before now text → WritesPrefix text sink sink_now → (sink_now.written ≡ sink.written) ⊎ ((t : List ℕ) × HasText words before now t × WritesPrefix t sink sink_now)
printed_prefix words before now text sink sink_now (inl none) begun = inl (silent_prefix text sink sink_now none begun)
printed_prefix words before now text sink sink_now (inr has) begun = inr (text, has, begun)

-- what is written whole is written as a beginning
all_prefix : (text : List ℕ) (sink sink_now : SinkState) → WritesAll text sink sink_now → WritesPrefix text sink sink_now
all_prefix text sink sink_now all = record { piece = text; rest = []; begins = sym (append-nil text); written = all.written }

prints_prefix : (begun ended : Status) (text : List ℕ) (sink sink_now : SinkState) → Prints begun text ended sink sink_now → WritesPrefix text sink sink_now
prints_prefix begun ended text sink sink_now (inl printed) = all_prefix text sink sink_now printed.all
prints_prefix begun ended text sink sink_now (inr (inl failed)) = failed.cut.1
prints_prefix begun ended text sink sink_now (inr (inr out)) = out.begins

-- an answer other than that of a failed write counts no fault, or a read of a file of the command failed
caused : (command : CommandOf) (before now : ShelfState) (begun : Status) (text : List ℕ) → (begun ≡ status.WriteFault → ⊥) → IsOutcomeOf command before now begun text → KeepsFaults before now ⊎ IsUnread (files_read command) before now
caused command before now status.Found text other ends = inl (((facts_of command.verb).quiet command.sources).completed before now text ends)
caused command before now status.NoPlan text other ends = inl (((facts_of command.verb).quiet command.sources).none before now text ends)
caused command before now status.WordsRefused text other never = absurd never
caused command before now status.TableRefused text other refused = inl refused.refuses.quiet
caused command before now status.Undecided text other ends = inl (((facts_of command.verb).quiet command.sources).undecided before now text ends)
caused command before now status.ReadFault text other failed = inr (text, failed)
caused command before now status.WriteFault text other ends = absurd (other refl)
caused command before now status.NoMemory text other out = out.cause
caused command before now status.LogRefused text other ends = inl (((facts_of command.verb).quiet command.sources).log_refused before now text ends)
caused command before now status.FileTooLong text other refused = inl refused.refuses.quiet
caused command before now status.TooManyCuts text other ends = inl (((facts_of command.verb).quiet command.sources).cuts_refused before now text ends)

module _ (words : List (List ℕ)) (before now : ShelfState) (begun : Status) (text : List ℕ) where
  command_cause : (command : CommandOf) → command_of words ≡ Some command → KeepsFaults before now ⊎ IsUnread (files_read command) before now → HasNoWriteFault words before now
  command_cause command of (inl quiet) = inl quiet
  command_cause command of (inr failed) = inr (command, of, failed)

  answered_cause : (begun ≡ status.WriteFault → ⊥) → Answered words before now begun text → HasNoWriteFault words before now
  answered_cause other (inl (command, of, stands)) = command_cause command of (caused command before now begun text other stands)
  answered_cause other (inr (none, refused)) = inl (record { same_count = ap (λ (s : ShelfState). s.faults) refused.same; same_last = ap (λ (s : ShelfState). s.last_fault) refused.same })

  -- a failed write and want of memory have no text
  no_fault_text : OnCommand words (λ command. IsOutcomeOf command before now status.WriteFault text) → text ≡ []
  no_fault_text (command, of, (ends, none)) = none

  silent_fault : begun ≡ status.WriteFault → Answered words before now begun text → text ≡ []
  silent_fault is answered = no_fault_text (by_command words status.WriteFault begun before now text (λ e. cc) (λ e. cc) is answered)

  silent_words : begun ≡ status.NoMemory → IsWordsRefusal begun text → text ≡ []
  silent_words is (inl (e, t)) = absurd (let same : status.NoMemory ≡ status.WordsRefused = sym is ∙ e in cc)
  silent_words is (inr (e, t)) = t

  silent_out : begun ≡ status.NoMemory → Answered words before now begun text → text ≡ []
  silent_out is (inl (command, of, stands)) =
      let out : RunsOut command before now text = subst (λ s. IsOutcomeOf command before now s text) is stands in out.printed
  silent_out is (inr (none, refused)) = silent_words is refused.says

  -- so a run that ends for want of memory is none in which a write or a put failed
  unfailed : (ended : Status) (sink sink_now : SinkState) → ended ≡ status.NoMemory → Answered words before now begun text → Prints begun text ended sink sink_now → (begun ≡ status.WriteFault → ⊥) × (sink_now.faults ≡ sink.faults)
  unfailed ended sink sink_now is answered (inl printed) = (λ e. let same : status.WriteFault ≡ status.NoMemory = sym e ∙ sym printed.same ∙ is in cc, printed.all.quiet)
  unfailed ended sink sink_now is answered (inr (inl failed)) = absurd (failed.some (silent_out (kept begun status.NoMemory (sym failed.after ∙ is) (λ e. cc)) answered))
  unfailed ended sink sink_now is answered (inr (inr out)) = (λ e. out.some (silent_fault e answered), out.quiet)

-- the clause of status 7
pub ran_out-of : (words : List (List ℕ)) (ended : Status) (before now : ShelfState) (sink sink_now : SinkState) → IsRun words ended before now sink sink_now → code_of ended ≡ 7 → RanOut words before now sink sink_now
ran_out-of words ended before now sink sink_now runs is =
    let quiet = unfailed words before now runs.begun runs.text ended sink sink_now (from_code ended 7 is) runs.answered runs.printed in
    record {
      cause = answered_cause words before now runs.begun runs.text quiet.0 runs.answered;
      quiet = quiet.1;
      held = answered_keeps words before now runs.begun runs.text runs.answered;
      printed = printed_prefix words before now runs.text sink sink_now (text_answered words before now runs.begun runs.text runs.answered)
          (prints_prefix runs.begun ended runs.text sink sink_now runs.printed);
    }

-- ---- complete answers

-- the statuses of the ends of a command
answers_of : (command : CommandOf) → EndsAnswer command (ends_of command.verb command.sources)
answers_of command = (facts_of command.verb).answers command.sources

-- where a write or a put failed, a count of faults rose
pub unwritten_rose : (command : CommandOf) (before now : ShelfState) (sink sink_now : SinkState) → IsUnwritten command before now sink sink_now → Rose before.faults now.faults ⊎ Rose sink.faults sink_now.faults
unwritten_rose command before now sink sink_now (inl (ends, silent)) = inl ((answers_of command).unwritten before now ends)
unwritten_rose command before now sink sink_now (inr (text, report, cut)) = inr cut.0

-- a count that stays 0 doesn't rise
pub none_rose : Rose 0 0 ⊎ Rose 0 0 → ⊥
none_rose (inl rose) = absurd (omega (arith, rose))
none_rose (inr rose) = absurd (omega (arith, rose))

stands_completes : (command : CommandOf) (files : Files) (before now : ShelfState) (begun : Status) (text : List ℕ) → before.held ≡ Some files → (Rose before.faults now.faults → ⊥) → IsOutcomeOf command before now begun text → IsComplete command files (code_of begun)
stands_completes command files before now status.Found text told quiet ends = ((answers_of command).completed files before now text told ends).answers
stands_completes command files before now status.NoPlan text told quiet ends = ((answers_of command).none files before now text told ends).answers
stands_completes command files before now status.WordsRefused text told quiet never = absurd never
stands_completes command files before now status.TableRefused text told quiet refused = (answers_of command).refused files refused.fault (refused.refuses.input files told)
stands_completes command files before now status.Undecided text told quiet ends = ((answers_of command).undecided files before now text told ends).answers
stands_completes command files before now status.ReadFault text told quiet failed = absurd (quiet failed.rose)
stands_completes command files before now status.WriteFault text told quiet (ends, none) = absurd (quiet ((answers_of command).unwritten before now ends))
stands_completes command files before now status.NoMemory text told quiet out = (answers_of command).memory files
stands_completes command files before now status.LogRefused text told quiet ends = ((answers_of command).log_refused files before now text told ends).answers
stands_completes command files before now status.FileTooLong text told quiet refused = (answers_of command).too_long files refused.name (refused.refuses.input files told)
stands_completes command files before now status.TooManyCuts text told quiet ends = ((answers_of command).cuts_refused files before now text told ends).answers

completes_by : (words : List (List ℕ)) (command : CommandOf) (files : Files) (before now : ShelfState) (begun ended : Status) (text : List ℕ) (sink sink_now : SinkState) → command_of words ≡ Some command → before.held ≡ Some files → (Rose before.faults now.faults → ⊥) → (Rose sink.faults sink_now.faults → ⊥) → Answered words before now begun text → Prints begun text ended sink sink_now → IsComplete command files (code_of ended)
completes_by words command files before now begun ended text sink sink_now is told quiet quiet_sink answered (inl printed) =
    subst (λ s. IsComplete command files (code_of s)) (sym printed.same)
    (stands_completes command files before now begun text told quiet (stands_for words command begun before now text is answered))
completes_by words command files before now begun ended text sink sink_now is told quiet quiet_sink answered (inr (inl failed)) = absurd (quiet_sink failed.cut.0)
completes_by words command files before now begun ended text sink sink_now is told quiet quiet_sink answered (inr (inr out)) =
    subst (IsComplete command files) (sym (ap code_of out.after)) ((answers_of command).memory files)

-- the clause of complete answers
pub complete-of : (words : List (List ℕ)) (ended : Status) (before now : ShelfState) (sink sink_now : SinkState) → IsRun words ended before now sink sink_now → (command : CommandOf) → command_of words ≡ Some command → (Rose before.faults now.faults → ⊥) → (Rose sink.faults sink_now.faults → ⊥) → (files : Files) → before.held ≡ Some files → IsComplete command files (code_of ended)
complete-of words ended before now sink sink_now runs command is quiet quiet_sink files told =
    completes_by words command files before now runs.begun ended runs.text sink sink_now is told quiet quiet_sink runs.answered runs.printed

-- the clause of refused words
refused_by : (words : List (List ℕ)) (before now : ShelfState) (begun ended : Status) (text : List ℕ) (sink sink_now : SinkState) → command_of words ≡ None → Answered words before now begun text → Prints begun text ended sink sink_now → (code_of ended ≡ 2) ⊎ (code_of ended ≡ 7)
refused_by words before now begun ended text sink sink_now none (inl (command, of, stands)) printed = absurd (not_refused words command of none)
refused_by words before now begun ended text sink sink_now none (inr (is, refused)) printed = ends refused.says printed
  where
    ends : IsWordsRefusal begun text → Prints begun text ended sink sink_now → (code_of ended ≡ 2) ⊎ (code_of ended ≡ 7)
    ends (inl (e, t)) (inl printed) = inl (ap code_of (printed.same ∙ e))
    ends (inl (e, t)) (inr (inl failed)) = inl (ap code_of (failed.after ∙ ap after_failed_put e))
    ends (inl (e, t)) (inr (inr out)) = inr (ap code_of out.after)
    ends (inr (e, t)) (inl printed) = inr (ap code_of (printed.same ∙ e))
    ends (inr (e, t)) (inr (inl failed)) = inr (ap code_of (failed.after ∙ ap after_failed_put e))
    ends (inr (e, t)) (inr (inr out)) = inr (ap code_of out.after)

pub refused-of : (words : List (List ℕ)) (ended : Status) (before now : ShelfState) (sink sink_now : SinkState) → IsRun words ended before now sink sink_now → command_of words ≡ None → (code_of ended ≡ 2) ⊎ (code_of ended ≡ 7)
refused-of words ended before now sink sink_now runs none = refused_by words before now runs.begun ended runs.text sink sink_now none runs.answered runs.printed

-- ---- refusals whatever faults are counted

-- the status that a refusal ends with
ends_as : (meant begun ended : Status) (text : List ℕ) (sink sink_now : SinkState) → after_failed_put meant ≡ meant → begun ≡ meant → Prints begun text ended sink sink_now → (code_of ended ≡ code_of meant) ⊎ (code_of ended ≡ 7)
ends_as meant begun ended text sink sink_now stays is (inl printed) = inl (ap code_of (printed.same ∙ is))
ends_as meant begun ended text sink sink_now stays is (inr (inl failed)) = inl (ap code_of (failed.after ∙ ap after_failed_put is ∙ stays))
ends_as meant begun ended text sink sink_now stays is (inr (inr out)) = inr (ap code_of out.after)

-- a failed read and want of memory may come whatever the files give
any_given : (given : InputOf) (code : ℕ) → (code ≡ 5) ⊎ (code ≡ 7) → IsRefusedBy given code
any_given no_input code is = tt
any_given (too_long_input name) code is = inr is
any_given (refused_input fault) code is = inr is
any_given (built_input tables) code is = tt

-- the refusal's own status, or want of memory
own_or_memory : (own code : ℕ) → (code ≡ own) ⊎ (code ≡ 7) → (code ≡ own) ⊎ ((code ≡ 5) ⊎ (code ≡ 7))
own_or_memory own code (inl is) = inl is
own_or_memory own code (inr is) = inr (inr is)

memory_alone : (code : ℕ) → (code ≡ 7) ⊎ (code ≡ 7) → (code ≡ 5) ⊎ (code ≡ 7)
memory_alone code (inl is) = inr is
memory_alone code (inr is) = inr is

module _ (command : CommandOf) (before now : ShelfState) (begun ended : Status) (text : List ℕ) (sink sink_now : SinkState) (files : Files) (told : before.held ≡ Some files) where
  -- a command that reports has files that are not refused
  by_report : HasReport command before now text → IsUnrefused command files
  by_report (inl ends) = ((answers_of command).completed files before now text told ends).unrefused
  by_report (inr (inl ends)) = ((answers_of command).none files before now text told ends).unrefused
  by_report (inr (inr ends)) = ((answers_of command).undecided files before now text told ends).unrefused

  by_view : Prints begun text ended sink sink_now → View command before now begun text → IsRefusedBy (input_of command files) (code_of ended)
  by_view prints (reported report) = by_report report (code_of ended)
  by_view prints (log_refused refused) = ((answers_of command).log_refused files before now text told refused).unrefused (code_of ended)
  by_view prints (cuts_refused refused) = ((answers_of command).cuts_refused files before now text told refused).unrefused (code_of ended)
  by_view prints (table_refused refused is) =
      subst (λ g. IsRefusedBy g (code_of ended)) (sym (refused.refuses.input files told))
      (own_or_memory 3 (code_of ended) (ends_as status.TableRefused begun ended text sink sink_now refl is prints))
  by_view prints (too_long refused is) =
      subst (λ g. IsRefusedBy g (code_of ended)) (sym (refused.refuses.input files told))
      (own_or_memory 9 (code_of ended) (ends_as status.FileTooLong begun ended text sink sink_now refl is prints))
  by_view prints (unread failed is) = any_given (input_of command files) (code_of ended) (ends_as status.ReadFault begun ended text sink sink_now refl is prints)
  by_view prints (unwritten ends none) = (answers_of command).unwritten_files files before now told ends (code_of ended)
  by_view prints (ran_out none is) =
      any_given (input_of command files) (code_of ended) (memory_alone (code_of ended) (ends_as status.NoMemory begun ended text sink sink_now refl is prints))

-- the clause of refusals
pub refusals-of : (words : List (List ℕ)) (ended : Status) (before now : ShelfState) (sink sink_now : SinkState) → IsRun words ended before now sink sink_now → (command : CommandOf) → command_of words ≡ Some command → (files : Files) → before.held ≡ Some files → IsRefusedBy (input_of command files) (code_of ended)
refusals-of words ended before now sink sink_now runs command is files told =
    by_view command before now runs.begun ended runs.text sink sink_now files told runs.printed
    (view command before now runs.begun runs.text (stands_for words command runs.begun before now runs.text is runs.answered))
