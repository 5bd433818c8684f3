-- How the clauses on failed writes and on what stays follow from a run.
use Rattle.std.proofs.Common.{◌≡◌, ◌⊎◌, inl, inr, ℕ, List, [], ◌∷◌, ◌++◌, length, refl, sym, ap, ◌∙◌, subst, arith, false, true, Option, None, Some, is_some}
use Rattle.std.specs.Prelude.{Contains}
use Rattle.std.specs.FinMap.{get}
use Rattle.std.specs.List.{AllByRecursion}
use Rattle.shelf_io.specs.Files.{Files, with_bytes}
use Rattle.shelf_io.specs.Written.{with_written}
use Rattle.shelf_io.proofs.FileLaws.{is_some-with_bytes, KeepsOthers-with_bytes}
use Rattle.shelf_io.proofs.WrittenLaws.{with_written-nothing, is_some-with_written}
use Rattle.shelf_io.specs.States.{SinkState, ShelfState}
use Rattle.geoplan.specs.Codes.{code_of, after_failed_put}
use Rattle.geoplan.specs.CommandOf.{CommandOf, names_written, written_for, written_by, OnCommand}
use Rattle.geoplan.specs.Ends.{ends_of, Began, HasReport}
use Rattle.geoplan.specs.Printing.{WritesPrefix, WritesAll, IsCutShort}
use Rattle.geoplan.specs.Promises.{WhereHeld, IsUnwritten, OthersStay}
use Rattle.geoplan.specs.Running.{Prints, Answered, IsRun}
use Rattle.geoplan.specs.Standing.{IsOutcomeOf}
use Rattle.geoplan.specs.declared.status.Status.{Status}
use Rattle.geoplan.specs.declared.status.Status.TheVariants as status
use Rattle.geoplan.proofs.AnswerLemmas.{by_command}
use Rattle.geoplan.proofs.CodeLemmas.{from_code}
use Rattle.geoplan.proofs.CommandFacts.{facts_of}
use Rattle.geoplan.proofs.OwedFacts.{with_pieces, HoldsPieces, EndsKeep}

-- ---- what is printed

-- the beginning of no text is nothing
nothing_begun : (piece rest : List ℕ) → [] ≡ piece ++ rest → piece ≡ []
nothing_begun [] rest is = refl
nothing_begun (x ∷ piece) rest is = absurd (cc)

pub silent_prefix : (text : List ℕ) (sink sink_now : SinkState) → text ≡ [] → WritesPrefix text sink sink_now → sink_now.written ≡ sink.written
silent_prefix text sink sink_now none begun =
    begun.written ∙ ap (with_written sink.written) (nothing_begun begun.piece begun.rest (sym none ∙ begun.begins)) ∙ with_written-nothing sink.written

silent_all : (text : List ℕ) (sink sink_now : SinkState) → text ≡ [] → WritesAll text sink sink_now → sink_now.written ≡ sink.written
silent_all text sink sink_now none all = all.written ∙ ap (with_written sink.written) none ∙ with_written-nothing sink.written

-- whatever is printed, whether it is told stays
pub out_told-of : (begun ended : Status) (text : List ℕ) (sink sink_now : SinkState) → Prints begun text ended sink sink_now → is_some sink_now.written ≡ is_some sink.written
out_told-of begun ended text sink sink_now (inl printed) = ap is_some printed.all.written ∙ is_some-with_written sink.written text
out_told-of begun ended text sink sink_now (inr (inl failed)) = ap is_some failed.cut.1.written ∙ is_some-with_written sink.written failed.cut.1.piece
out_told-of begun ended text sink sink_now (inr (inr out)) = ap is_some out.begins.written ∙ is_some-with_written sink.written out.begins.piece

-- ---- what the shelf holds

module _ (command : CommandOf) (before now : ShelfState) where
  abbrev Kept : Type 0
  Kept = (now.held ≡ before.held) ⊎ Began command before.held now.held

  keeps_of : EndsKeep (ends_of command.verb command.sources) (names_written command)
  keeps_of = (facts_of command.verb).keeps command.sources

  pub stands_keep : (begun : Status) (text : List ℕ) → IsOutcomeOf command before now begun text → Kept
  stands_keep status.Found text ends = keeps_of.completed before now text ends
  stands_keep status.NoPlan text ends = keeps_of.none before now text ends
  stands_keep status.WordsRefused text never = absurd never
  stands_keep status.TableRefused text refused = inl refused.refuses.held
  stands_keep status.Undecided text ends = keeps_of.undecided before now text ends
  stands_keep status.ReadFault text unread = inl unread.held
  stands_keep status.WriteFault text (ends, none) = keeps_of.unwritten before now ends
  stands_keep status.NoMemory text out = out.held
  stands_keep status.LogRefused text ends = keeps_of.log_refused before now text ends
  stands_keep status.FileTooLong text refused = inl refused.refuses.held
  stands_keep status.TooManyCuts text ends = keeps_of.cuts_refused before now text ends

-- ---- pieces under names

-- whether the files are told stays
told_pieces : (held : Option Files) (pieces : List (List ℕ × List ℕ)) → is_some (with_pieces held pieces) ≡ is_some held
told_pieces held [] = refl
told_pieces held (piece ∷ later) = told_pieces (with_bytes held piece.0 piece.1) later ∙ is_some-with_bytes held piece.0 piece.1

-- a name other than theirs holds what it held
module _ (names : List (List ℕ)) (name : List ℕ) (other : Contains names name → ⊥) where
  others_one : (piece : List ℕ × List ℕ) → Contains names piece.0 → (held : Option Files) (files after : Files) → held ≡ Some files → (middle : Option Files) → middle ≡ with_bytes held piece.0 piece.1
      → ((between : Files) → middle ≡ Some between → get after name ≡ get between name) → get after name ≡ get files name
  others_one piece one held files after told None written later = absurd (let e : false ≡ true = ap is_some written ∙ is_some-with_bytes held piece.0 piece.1 ∙ ap is_some told in cc)
  others_one piece one held files after told (Some between) written later =
      later between refl
      ∙ (KeepsOthers-with_bytes piece.0 piece.1 held (Some between) written).others files between told refl name (λ same. other (subst (λ n. Contains names n) (sym same) one))

  others_pieces : (pieces : List (List ℕ × List ℕ)) → AllByRecursion (λ piece. Contains names piece.0) pieces → (held now : Option Files) (files after : Files) → held ≡ Some files → now ≡ Some after → now ≡ with_pieces held pieces → get after name ≡ get files name
  others_pieces [] named held now files after told told_now is =
      let e : Some after ≡ Some files = sym told_now ∙ is ∙ told in
      let same : after ≡ files = cc in ap (λ m. get m name) same
  others_pieces (piece ∷ later) (one, rest) held now files after told told_now is =
      others_one piece one held files after told (with_bytes held piece.0 piece.1) refl
      (λ between is_between. others_pieces later rest (with_bytes held piece.0 piece.1) now between after is_between told_now is)

none_named : (names : List (List ℕ)) (name : List ℕ) → names ≡ [] → Contains names name → ⊥
none_named names name none (k, below, is) = let e : length names ≡ 0 = ap length none in omega (arith, e, below)

-- with no names there are no pieces
no_pieces : (names : List (List ℕ)) (held : Option Files) (pieces : List (List ℕ × List ℕ)) → names ≡ [] → AllByRecursion (λ piece. Contains names piece.0) pieces → with_pieces held pieces ≡ held
no_pieces names held [] none named = refl
no_pieces names held (piece ∷ later) none (one, rest) = absurd (none_named names piece.0 none one)

-- nothing is a piece
held_pieces : (names : List (List ℕ)) (before now : Option Files) → now ≡ before → HoldsPieces names before now
held_pieces names before now same = record { pieces = []; named = tt; held = same }

module _ (words : List (List ℕ)) (before now : ShelfState) where
  command_held : (command : CommandOf) → (now.held ≡ before.held) ⊎ Began command before.held now.held → HoldsPieces (names_written command) before.held now.held
  command_held command (inl same) = held_pieces (names_written command) before.held now.held same
  command_held command (inr began) = (keeps_of command before now).pieces before.held now.held began

  held_answered : (begun : Status) (text : List ℕ) → Answered words before now begun text → HoldsPieces (written_by words) before.held now.held
  held_answered begun text (inl (command, of, stands)) =
      subst (λ c. HoldsPieces (written_for c) before.held now.held) (sym of) (command_held command (stands_keep command before now begun text stands))
  held_answered begun text (inr (none, refused)) = held_pieces (written_by words) before.held now.held (ap (λ (s : ShelfState). s.held) refused.same)

module _ (words : List (List ℕ)) (ended : Status) (before now : ShelfState) (sink sink_now : SinkState) where
  pub shelf_told-of : IsRun words ended before now sink sink_now → is_some now.held ≡ is_some before.held
  shelf_told-of runs =
      let holds = held_answered words before now runs.begun runs.text runs.answered in
      ap is_some holds.held ∙ told_pieces before.held holds.pieces

  pub others-of : IsRun words ended before now sink sink_now → WhereHeld before.held now.held (OthersStay words)
  others-of runs files after told told_now name other =
      let holds = held_answered words before now runs.begun runs.text runs.answered in
      others_pieces (written_by words) name other holds.pieces holds.named before.held now.held files after told told_now holds.held

  pub untouched-of : IsRun words ended before now sink sink_now → written_by words ≡ [] → now.held ≡ before.held
  untouched-of runs none =
      let holds = held_answered words before now runs.begun runs.text runs.answered in
      holds.held ∙ no_pieces (written_by words) before.held holds.pieces none holds.named

  -- ---- status 6

  write_fails : (text : List ℕ) → (text ≡ [] → sink_now.written ≡ sink.written) → OnCommand words (λ command. IsOutcomeOf command before now status.WriteFault text) → OnCommand words (λ command. IsUnwritten command before now sink sink_now)
  write_fails text silent (command, of, (unwritten, none)) = (command, of, inl (unwritten, silent none))

  report_fails : (target : Status) (text : List ℕ) → ((command : CommandOf) → IsOutcomeOf command before now target text → HasReport command before now text) → IsCutShort text sink sink_now → Answered words before now target text → (target ≡ status.WordsRefused → ⊥) → (target ≡ status.NoMemory → ⊥) → OnCommand words (λ command. IsUnwritten command before now sink sink_now)
  report_fails target text report cut answered accepted enough = reported (by_command words target target before now text accepted enough refl answered)
    where
      reported : OnCommand words (λ command. IsOutcomeOf command before now target text) → OnCommand words (λ command. IsUnwritten command before now sink sink_now)
      reported (command, of, stands) = (command, of, inr (text, report command stands, cut))

  put_fails : (begun : Status) (text : List ℕ) → after_failed_put begun ≡ status.WriteFault → IsCutShort text sink sink_now → Answered words before now begun text → OnCommand words (λ command. IsUnwritten command before now sink sink_now)
  put_fails status.Found text after cut answered = report_fails status.Found text (λ command stands. inl stands) cut answered (λ e. cc) (λ e. cc)
  put_fails status.NoPlan text after cut answered = report_fails status.NoPlan text (λ command stands. inr (inl stands)) cut answered (λ e. cc) (λ e. cc)
  put_fails status.WordsRefused text after cut answered = absurd (cc)
  put_fails status.TableRefused text after cut answered = absurd (cc)
  put_fails status.Undecided text after cut answered = report_fails status.Undecided text (λ command stands. inr (inr stands)) cut answered (λ e. cc) (λ e. cc)
  put_fails status.ReadFault text after cut answered = absurd (cc)
  put_fails status.WriteFault text after cut answered =
      write_fails text (λ none. silent_prefix text sink sink_now none cut.1) (by_command words status.WriteFault status.WriteFault before now text (λ e. cc) (λ e. cc) refl answered)
  put_fails status.NoMemory text after cut answered = absurd (cc)
  put_fails status.LogRefused text after cut answered = absurd (cc)
  put_fails status.FileTooLong text after cut answered = absurd (cc)
  put_fails status.TooManyCuts text after cut answered = absurd (cc)

  unwritten_by : (begun : Status) (text : List ℕ) → ended ≡ status.WriteFault → Answered words before now begun text → Prints begun text ended sink sink_now → OnCommand words (λ command. IsUnwritten command before now sink sink_now)
  unwritten_by begun text is answered (inl printed) =
      write_fails text (λ none. silent_all text sink sink_now none printed.all)
      (by_command words status.WriteFault begun before now text (λ e. cc) (λ e. cc) (sym printed.same ∙ is) answered)
  unwritten_by begun text is answered (inr (inl failed)) = put_fails begun text (sym failed.after ∙ is) failed.cut answered
  unwritten_by begun text is answered (inr (inr out)) = absurd (let e : status.NoMemory ≡ status.WriteFault = sym out.after ∙ is in cc)

  -- the clause of status 6
  pub unwritten-of : IsRun words ended before now sink sink_now → code_of ended ≡ 6 → OnCommand words (λ command. IsUnwritten command before now sink sink_now)
  unwritten-of runs is = unwritten_by runs.begun runs.text (from_code ended 6 is) runs.answered runs.printed
