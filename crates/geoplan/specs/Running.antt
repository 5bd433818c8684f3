use Rattle.std.specs.Prelude.{◌≡◌, ◌⊎◌, ℕ, List, [], None}
use Rattle.shelf_io.specs.States.{SinkState, ShelfState}
use Rattle.geoplan.specs.Codes.{after_failed_put}
use Rattle.geoplan.specs.CommandOf.{command_of, OnCommand}
use Rattle.geoplan.specs.Printing.{WritesPrefix, WritesAll, IsCutShort}
use Rattle.geoplan.specs.Reporting.{Ends}
use Rattle.geoplan.specs.Standing.{IsOutcomeOf}
use Rattle.geoplan.specs.Texts.{words_text}
use Rattle.geoplan.specs.declared.status.Status.{Status}
use Rattle.geoplan.specs.declared.status.Status.TheVariants as status

-- The whole run: the answer, and its printing. Only private clauses and proofs cite it. This project's own.

-- the text was printed and the status stays
pub record IsPrinted (begun : Status) (text : List ℕ) (ended : Status) (before now : SinkState) : Type 0 where
  pub same : ended ≡ begun
  pub all : WritesAll text before now

-- a put of a text failed, and the status is what it is after that
pub record BreaksOff (begun : Status) (text : List ℕ) (ended : Status) (before now : SinkState) : Type 0 where
  pub some : text ≡ [] → ⊥
  pub after : ended ≡ after_failed_put begun
  pub cut : IsCutShort text before now

-- memory ran out in a put of a text
pub record RunsOutPrinting (text : List ℕ) (ended : Status) (before now : SinkState) : Type 0 where
  pub some : text ≡ [] → ⊥
  pub after : ended ≡ status.NoMemory
  pub quiet : now.faults ≡ before.faults
  pub begins : WritesPrefix text before now

-- how a text is printed with its status, and which status the program ends with
abbrev pub Prints : Status → List ℕ → Status → SinkState → SinkState → Type 0
Prints begun text ended before now =
    IsPrinted begun text ended before now ⊎ (BreaksOff begun text ended before now ⊎ RunsOutPrinting text ended before now)

-- the words are refused by name, where there was memory for it
abbrev pub IsWordsRefusal : Status → List ℕ → Type 0
IsWordsRefusal begun text = Ends status.WordsRefused words_text begun text

-- the words are refused: nothing is read or written
pub record AnswersWords (before now : ShelfState) (begun : Status) (text : List ℕ) : Type 0 where
  pub same : now ≡ before
  pub says : IsWordsRefusal begun text

-- the answer to a command line, before anything is printed
abbrev pub Answered : List (List ℕ) → ShelfState → ShelfState → Status → List ℕ → Type 0
Answered words before now begun text =
    OnCommand words (λ command. IsOutcomeOf command before now begun text) ⊎ ((command_of words ≡ None) × AnswersWords before now begun text)

-- a run: the answer, and its printing
pub record IsRun (words : List (List ℕ)) (ended : Status) (before now : ShelfState) (sink sink_now : SinkState) : Type 0 where
  pub begun : Status
  pub text : List ℕ
  pub answered : Answered words before now begun text
  pub printed : Prints begun text ended sink sink_now
