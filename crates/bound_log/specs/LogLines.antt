-- How a line is read word by word. This project's own.
use Rattle.std.specs.Prelude.{◌≡◌, ℕ, List, ◌++◌}
use Rattle.bound_log.specs.declared.log_line.LogLine.{LogLine}
use Rattle.bound_log.specs.Grammar.{HasNumbersBelow, number_bound}
use Rattle.bound_log.specs.LogText.{line_words}
pub use Rattle.lent_parts.specs.Pieces.{words_of}

-- the words begin with those of the line, and these are the words after it
pub record WordsBeginWith (words : List (List ℕ)) (line : LogLine) (after : List (List ℕ)) : Type 0 where
  pub spelled : words ≡ line_words line ++ after
  pub numbers : HasNumbersBelow number_bound line
