-- The texts of the lines of a log, in either format. This project's own.
use Rattle.std.specs.Prelude.{◌≡◌, ℕ, List, ◌++◌, All, flat_map, true}
use Rattle.lent_parts.specs.Pieces.{TextLineOf}
use Rattle.bound_log.specs.declared.log_format.LogFormat.{LogFormat}
use Rattle.bound_log.specs.declared.log_format.LogFormat.TheVariants.{First, Second}
use Rattle.bound_log.specs.declared.log_line.LogLine.{LogLine}
use Rattle.bound_log.specs.declared.named_line.NamedLine.{NamedLine}
use Rattle.bound_log.specs.Grammar.{IsLine}
use Rattle.bound_log.specs.Lines.{numbers_of}
use Rattle.bound_log.specs.LogText.{head_body, line_body, line_end}
use Rattle.bound_log.specs.NamedText.{IsNamedLine, named_body, named_numbers, second_head_body}
use Rattle.bound_log.specs.Numbers.{AreShort}

-- a line of a log of a format, after the first one
abbrev pub LineIn : LogFormat → Type 0
LineIn First = LogLine
LineIn Second = NamedLine

-- the first line of a log of a format, without its LF and with it
abbrev pub head_body_in : LogFormat → List ℕ
head_body_in First = head_body
head_body_in Second = second_head_body

abbrev pub head_text_in : LogFormat → List ℕ
head_text_in format = head_body_in format ++ line_end

-- a line without its LF and with it, and lines one after another
abbrev pub body_in : (format : LogFormat) → LineIn format → List ℕ
body_in First line = line_body line
body_in Second line = named_body line

abbrev pub text_in : (format : LogFormat) → LineIn format → List ℕ
text_in format line = body_in format line ++ line_end

abbrev pub texts_in : (format : LogFormat) → List (LineIn format) → List ℕ
texts_in format lines = flat_map (text_in format) lines

-- the numbers in the text of a line, from left to right, without their signs
abbrev pub numbers_in : (format : LogFormat) → LineIn format → List ℕ
numbers_in First line = numbers_of line
numbers_in Second line = named_numbers line

-- each number of a line has at most 19 digits
abbrev pub IsShortLine : (format : LogFormat) → LineIn format → Type 0
IsShortLine format line = AreShort (numbers_in format line)

-- the text, without LF, is that of the line of the format's grammar
abbrev pub IsLineIn : (format : LogFormat) → List ℕ → LineIn format → Type 0
IsLineIn First text line = IsLine text line
IsLineIn Second text line = IsNamedLine text line

-- a line as it is cut from a text
abbrev pub text_line_in : (format : LogFormat) → LineIn format → TextLineOf
text_line_in format line = record { text = body_in format line; ended = true }

-- a text begins with the first line of a log of the format and these lines of its grammar, and this is left of it
pub record BeginsIn (format : LogFormat) (text : List ℕ) (lines : List (LineIn format)) (left : List ℕ) : Type 0 where
  pub spelled : text ≡ head_text_in format ++ (texts_in format lines ++ left)
  pub numbers : All (IsShortLine format) lines

-- what is left of a text begins with a line of the format's grammar with its LF, and this is left after it
pub record NextIn (format : LogFormat) (text : List ℕ) (line : LineIn format) (left : List ℕ) : Type 0 where
  pub spelled : text ≡ text_in format line ++ left
  pub numbers : IsShortLine format line
