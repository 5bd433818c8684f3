-- A log of format 2 that is being written. What stands here serves private functions and proofs. This project's own.
use Rattle.std.specs.Prelude.{◌≡◌, ◌<◌, ◌≤◌, ℕ, List, [], ◌++◌, All, Result, Ok, Err, length, map}
use Rattle.bound_log.specs.CutText.{CutTextOf, cut_numbers}
use Rattle.lent_parts.specs.Pieces.{TextLineOf}
use Rattle.bound_log.specs.Formats.{IsShortLine, head_text_in, text_line_in, texts_in}
use Rattle.bound_log.specs.NamedText.{named_text}
use Rattle.bound_log.specs.Numbers.{AreShort}
use Rattle.bound_log.specs.declared.log_format.LogFormat.TheVariants.{First, Second}
use Rattle.bound_log.specs.declared.log_line.LogLine.{LogLine}
use Rattle.bound_log.specs.declared.named_line.NamedLine.TheVariants.{Named}
use Rattle.log_migrate.specs.FirstUse.{cuts_needed, first_used, lines_with_names, numbered_share}
use Rattle.log_migrate.specs.declared.answer.MigrateAnswer.{MigrateAnswer}
use Rattle.log_migrate.specs.declared.answer.MigrateAnswer.TheVariants.{TooManyCuts, NoMemory}
use Rattle.log_migrate.specs.declared.new_log.NewLog.{NewLog}

-- the line that names a cut
abbrev pub naming_text : CutTextOf → List ℕ
naming_text cut = named_text (Named cut)

-- each number in the text of a cut has at most 19 digits
abbrev pub IsShortCut : CutTextOf → Type 0
IsShortCut cut = AreShort (cut_numbers cut)

-- a new log has named these cuts
pub record HasNamed (named : List CutTextOf) (made : NewLog) : Type 0 where
  pub names : made.names ≡ map naming_text named
  pub short : All IsShortCut named
  pub few : length named ≤ 65536

-- a new log that has named these cuts gets these lines, with the names of further cuts
pub record Gets (named more : List CutTextOf) (added : List ℕ) (before now : NewLog) : Type 0 where
  pub text : now.text.items ≡ before.text.items ++ added
  pub holds : HasNamed (named ++ more) now

-- why a cut has no number: these are more than a log can name
abbrev pub IsRefusal : List CutTextOf → MigrateAnswer → Type 0
IsRefusal cuts TooManyCuts = 65536 < length cuts
IsRefusal cuts NoMemory = Unit {0}

-- what numbers of cuts that are used come to
abbrev pub names_text : List CutTextOf → List ℕ
names_text cuts = texts_in Second (map Named cuts)

-- a new log has these lines of a tree
pub record HasLines (lines : List LogLine) (made : NewLog) : Type 0 where
  pub text : made.text.items ≡ head_text_in Second ++ texts_in Second (lines_with_names [] lines)
  pub named : HasNamed (cuts_needed lines) made

-- what lines of a tree come to
abbrev pub Writes : List LogLine → Result NewLog MigrateAnswer → Type 0
Writes lines (Ok made) = HasLines lines made
Writes lines (Err why) = IsRefusal (cuts_needed lines) why

-- these are what is left of a log of format 1: lines of a tree, each in the grammar with its LF
pub record AreLines (nodes : List LogLine) (lines : List TextLineOf) : Type 0 where
  pub spelled : lines ≡ map (text_line_in First) nodes
  pub short : All (IsShortLine First) nodes

-- of these lines of a tree some are written, and these lines of a text are left
pub record WrittenSo (nodes : List LogLine) (walk : List TextLineOf) (made : NewLog) : Type 0 where
  pub done : List LogLine
  pub left : List LogLine
  pub parts : nodes ≡ done ++ left
  pub walked : AreLines left walk
  pub has : HasLines done made

-- the cuts of shares
abbrev pub cuts_of : List (ℕ × CutTextOf) → List CutTextOf
cuts_of shares = map (λ share. share.1) shares

-- .. those of them that are used for the first time where these are named
abbrev pub more_of : List CutTextOf → List (ℕ × CutTextOf) → List CutTextOf
more_of named shares = first_used named (cuts_of shares)

-- so many of the shares have their numbers
pub record NumbersSo (named : List CutTextOf) (all left : List (ℕ × CutTextOf)) (uses : List (ℕ × ℕ)) (before now : NewLog) : Type 0 where
  pub done : List (ℕ × CutTextOf)
  pub parts : all ≡ done ++ left
  pub numbered : uses ≡ map (numbered_share (named ++ more_of named done)) done
  pub gets : Gets named (more_of named done) (names_text (more_of named done)) before now
