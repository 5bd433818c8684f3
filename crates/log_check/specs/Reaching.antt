-- How far the text of a log has been taken. It speaks of the text taken so far, and not of the text
-- to come. This project's own; it serves the proof of the replay, and no public clause cites it.
use Rattle.std.specs.Prelude.{◌≡◌, ℕ, ◌+◌, ◌<◌, true, List, [], ◌∷◌, ◌++◌, length, Some}
use Rattle.lent_parts.specs.Pieces.{TextLineOf, lines_of}
use Rattle.geo_model.specs.Network.{NetworkOf}
use Rattle.bound_log.specs.declared.log_format.LogFormat.{LogFormat}
use Rattle.bound_log.specs.declared.log_line.LogLine.{LogLine}
use Rattle.bound_log.specs.Formats.{BeginsIn, LineIn, head_body_in}
use Rattle.bound_log.specs.LogTree.{root_of}
use Rattle.bound_log.specs.Meanings.{AreNames, cuts_named, nodes_in}
use Rattle.log_check.specs.declared.progress.Progress.{Progress}
use Rattle.log_check.specs.Running.{GoesTo, StandsAt}

-- the first line of a log of a format, as it is cut from a text
abbrev pub head_line : LogFormat → TextLineOf
head_line format = record { text = head_body_in format; ended = true }

-- a text of so many lines: nothing as yet, or the first line of a log and these lines after it
pub data IsFront (text : List ℕ) (format : LogFormat) (lines : List (LineIn format)) (count : ℕ) : Type 0 where
  nothing : text ≡ [] → lines ≡ [] → count ≡ 0 → IsFront text format lines count
  begun : BeginsIn format text lines [] → count ≡ length lines + 1 → IsFront text format lines count

-- this text was taken, and its lines lead to this progress
pub record HasTaken (network : NetworkOf) (text : List ℕ) (progress : Progress) : Type 0 where
  pub format : LogFormat
  pub formed : 0 < progress.lines → progress.format ≡ format
  pub lines : List (LineIn format)
  pub front : IsFront text format lines progress.lines
  pub goes : GoesTo network format [] (root_of network ∷ []) lines progress.stack.nodes
  pub nodes : List LogLine
  pub stand : nodes_in format [] lines ≡ Some nodes
  pub stands : StandsAt network nodes progress.stack.nodes progress.bound progress.counts
  pub named : progress.cuts ≡ cuts_named format lines
  pub names : AreNames network progress.cuts
  pub count : progress.stack.candidates ≡ length network.candidates

-- a front of the text was taken, and these lines of the text are left
pub record Reaches (network : NetworkOf) (text : List ℕ) (walk : List TextLineOf) (progress : Progress) : Type 0 where
  pub front : List ℕ
  pub left : List ℕ
  pub whole : text ≡ front ++ left
  pub walked : walk ≡ lines_of left
  pub taken : HasTaken network front progress
