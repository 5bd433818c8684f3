-- The grammar of the lines of a log: a kind and whole numbers, with one space between each two. This project's own.
use Rattle.std.specs.Prelude.{◌≡◌, true, ℕ, ◌<◌, List, ◌++◌}
use Rattle.std.specs.List.{AllByRecursion}
use Rattle.lent_parts.specs.Pieces.{TextLineOf}
use Rattle.bound_log.specs.declared.log_line.LogLine.{LogLine}
use Rattle.bound_log.specs.Lines.{numbers_of}
use Rattle.bound_log.specs.LogText.{line_body, line_text, line_end}
pub use Rattle.bound_log.specs.Numbers.{number_bound, IsNumberText, IsShortNumeral}

-- each number of the line is below the bound
abbrev pub HasNumbersBelow : ℕ → LogLine → Type 0
HasNumbersBelow bound line = AllByRecursion (λ number. number < bound) (numbers_of line)

-- the text, without LF, is that of the line, and the line's numbers have at most 19 digits
pub record IsLine (text : List ℕ) (line : LogLine) : Type 0 where
  pub spelled : text ++ line_end ≡ line_text line
  pub numbers : HasNumbersBelow number_bound line

-- a line as it is cut from a text
abbrev pub text_line : LogLine → TextLineOf
text_line line = record { text = line_body line; ended = true }
