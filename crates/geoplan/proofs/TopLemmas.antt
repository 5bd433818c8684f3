-- How the clauses on outcomes follow from a run.
use Rattle.std.proofs.Common.{◌≡◌, inl, inr, ℕ, List, subst}
use Rattle.shelf_io.specs.States.{SinkState, ShelfState}
use Rattle.geoplan.specs.Codes.{code_of, after_failed_put}
use Rattle.geoplan.specs.CommandOf.{OnCommand}
use Rattle.geoplan.specs.Outcomes.{RefusesWords}
use Rattle.geoplan.specs.Printing.{WritesAll, IsSaid, PrintsAll, HasPrinted}
use Rattle.geoplan.specs.Running.{IsWordsRefusal, Answered, IsRun}
use Rattle.geoplan.specs.Standing.{IsOutcomeOf}
use Rattle.geoplan.specs.Texts.{words_text}
use Rattle.geoplan.specs.declared.status.Status.{Status}
use Rattle.geoplan.specs.declared.status.Status.TheVariants as status
use Rattle.geoplan.proofs.AnswerLemmas.{by_command}
use Rattle.geoplan.proofs.CodeLemmas.{from_code, says-of, whole-of}

module _ (words : List (List ℕ)) (ended : Status) (before now : ShelfState) (sink sink_now : SinkState) where
  -- ---- the status of a report: 0, 1 or 4

  whole_in : (target : Status) (text : List ℕ) → WritesAll text sink sink_now → OnCommand words (λ command. IsOutcomeOf command before now target text) →
      OnCommand words (λ command. PrintsAll (λ t. IsOutcomeOf command before now target t) sink sink_now)
  whole_in target text all (command, of, stands) = (command, of, (text, stands, all))

  report-of : (target : Status) → (target ≡ status.WriteFault → ⊥) → (target ≡ status.NoMemory → ⊥) → (target ≡ status.WordsRefused → ⊥) → (after_failed_put target ≡ target → ⊥) →
      IsRun words ended before now sink sink_now → ended ≡ target → OnCommand words (λ command. PrintsAll (λ t. IsOutcomeOf command before now target t) sink sink_now)
  report-of target no_fault enough accepted is_report runs is =
      let printed = whole-of target runs.begun ended runs.text sink sink_now no_fault enough is_report is runs.printed in
      whole_in target runs.text printed.1 (by_command words target runs.begun before now runs.text accepted enough printed.0 runs.answered)

  pub done-of : IsRun words ended before now sink sink_now → code_of ended ≡ 0 → OnCommand words (λ command. PrintsAll (λ t. IsOutcomeOf command before now status.Found t) sink sink_now)
  done-of runs is = report-of status.Found (λ e. cc) (λ e. cc) (λ e. cc) (λ e. cc) runs (from_code ended 0 is)

  pub none-of : IsRun words ended before now sink sink_now → code_of ended ≡ 1 → OnCommand words (λ command. PrintsAll (λ t. IsOutcomeOf command before now status.NoPlan t) sink sink_now)
  none-of runs is = report-of status.NoPlan (λ e. cc) (λ e. cc) (λ e. cc) (λ e. cc) runs (from_code ended 1 is)

  pub undecided-of : IsRun words ended before now sink sink_now → code_of ended ≡ 4 → OnCommand words (λ command. PrintsAll (λ t. IsOutcomeOf command before now status.Undecided t) sink sink_now)
  undecided-of runs is = report-of status.Undecided (λ e. cc) (λ e. cc) (λ e. cc) (λ e. cc) runs (from_code ended 4 is)

  -- ---- the status of a refusal: 3, 5, 8, 9 or 15

  said_in : (target : Status) (text : List ℕ) → IsSaid text sink sink_now → OnCommand words (λ command. IsOutcomeOf command before now target text) →
      OnCommand words (λ command. HasPrinted (λ t. IsOutcomeOf command before now target t) sink sink_now)
  said_in target text said (command, of, stands) = (command, of, (text, stands, said))

  refusal-of : (target : Status) → (target ≡ status.WriteFault → ⊥) → (target ≡ status.NoMemory → ⊥) → (target ≡ status.WordsRefused → ⊥) →
      IsRun words ended before now sink sink_now → ended ≡ target → OnCommand words (λ command. HasPrinted (λ t. IsOutcomeOf command before now target t) sink sink_now)
  refusal-of target no_fault enough accepted runs is =
      let said = says-of target runs.begun ended runs.text sink sink_now no_fault enough is runs.printed in
      said_in target runs.text said.1 (by_command words target runs.begun before now runs.text accepted enough said.0 runs.answered)

  pub refused_table-of : IsRun words ended before now sink sink_now → code_of ended ≡ 3 → OnCommand words (λ command. HasPrinted (λ t. IsOutcomeOf command before now status.TableRefused t) sink sink_now)
  refused_table-of runs is = refusal-of status.TableRefused (λ e. cc) (λ e. cc) (λ e. cc) runs (from_code ended 3 is)

  pub unread-of : IsRun words ended before now sink sink_now → code_of ended ≡ 5 → OnCommand words (λ command. HasPrinted (λ t. IsOutcomeOf command before now status.ReadFault t) sink sink_now)
  unread-of runs is = refusal-of status.ReadFault (λ e. cc) (λ e. cc) (λ e. cc) runs (from_code ended 5 is)

  pub log_refused-of : IsRun words ended before now sink sink_now → code_of ended ≡ 8 → OnCommand words (λ command. HasPrinted (λ t. IsOutcomeOf command before now status.LogRefused t) sink sink_now)
  log_refused-of runs is = refusal-of status.LogRefused (λ e. cc) (λ e. cc) (λ e. cc) runs (from_code ended 8 is)

  pub too_long-of : IsRun words ended before now sink sink_now → code_of ended ≡ 9 → OnCommand words (λ command. HasPrinted (λ t. IsOutcomeOf command before now status.FileTooLong t) sink sink_now)
  too_long-of runs is = refusal-of status.FileTooLong (λ e. cc) (λ e. cc) (λ e. cc) runs (from_code ended 9 is)

  pub cuts_refused-of : IsRun words ended before now sink sink_now → code_of ended ≡ 15 → OnCommand words (λ command. HasPrinted (λ t. IsOutcomeOf command before now status.TooManyCuts t) sink sink_now)
  cuts_refused-of runs is = refusal-of status.TooManyCuts (λ e. cc) (λ e. cc) (λ e. cc) runs (from_code ended 15 is)

  -- ---- status 2

  words_in : (text : List ℕ) → IsSaid text sink sink_now → Answered words before now status.WordsRefused text → HasPrinted (RefusesWords words before now) sink sink_now
  words_in text said (inl (command, of, never)) = absurd never
  words_in text said (inr (none, refused)) = (text, record { none = none; same = refused.same; printed = meant refused.says }, said)
    where
      meant : IsWordsRefusal status.WordsRefused text → text ≡ words_text
      meant (inl (e, t)) = t
      meant (inr (e, t)) = absurd (cc)

  pub words-of : IsRun words ended before now sink sink_now → code_of ended ≡ 2 → HasPrinted (RefusesWords words before now) sink sink_now
  words-of runs is =
      let said = says-of status.WordsRefused runs.begun ended runs.text sink sink_now (λ e. cc) (λ e. cc) (from_code ended 2 is) runs.printed in
      words_in runs.text said.1 (subst (λ s. Answered words before now s runs.text) said.0 runs.answered)
