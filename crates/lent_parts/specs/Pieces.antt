-- Tokens of a line and lines of a text, each told by its bytes and by where it stands. This project's own.
use Rattle.std.specs.Prelude.{ℕ, ◌+◌, ◌==◌, Bool, true, false, List, [], ◌∷◌, ◌++◌, length, map, if◌then◌else◌}
use Rattle.std.specs.List.{slice_split}

-- the byte between two tokens
abbrev pub space : ℕ
space = 32

-- the byte at the end of a line, LF
abbrev pub line_feed : ℕ
line_feed = 10

abbrev pub is_space : ℕ → Bool
is_space c = c == space

abbrev pub is_line_feed : ℕ → Bool
is_line_feed c = c == line_feed

-- ---- tokens

-- a token: its bytes, and the place in its line at which they start
pub record TokenOf : Type 0 where
  pub text : List ℕ
  pub start : ℕ

-- pieces with one byte between two of them, of which the first starts at `start`
abbrev pub placed_from : ℕ → List (List ℕ) → List TokenOf
placed_from start [] = []
placed_from start (piece ∷ rest) = record { text = piece; start = start } ∷ placed_from (start + length piece + 1) rest

-- the tokens of the end of a line that starts at `start`: its pieces between single spaces
abbrev pub tokens_from : ℕ → List ℕ → List TokenOf
tokens_from start text = placed_from start (slice_split is_space text)

-- the tokens of a line; an empty line has one, which is empty
abbrev pub tokens_of : List ℕ → List TokenOf
tokens_of line = tokens_from 0 line

-- the texts of tokens
abbrev pub words_of : List TokenOf → List (List ℕ)
words_of tokens = map (λ token. token.text) tokens

-- ---- lines

-- a line of a text: its bytes without LF, and whether LF ends it
pub record TextLineOf : Type 0 where
  pub text : List ℕ
  pub ended : Bool

-- the pieces between LFs as lines: all but the last are ended, and an empty last piece is none
abbrev pub lines_between : List (List ℕ) → List TextLineOf
lines_between [] = []
lines_between ([] ∷ []) = []
lines_between ((c ∷ last) ∷ []) = record { text = c ∷ last; ended = false } ∷ []
lines_between (piece ∷ next ∷ rest) = record { text = piece; ended = true } ∷ lines_between (next ∷ rest)

-- the lines of a text
abbrev pub lines_of : List ℕ → List TextLineOf
lines_of text = lines_between (slice_split is_line_feed text)

-- a line as it stands in its text, with its LF where it has one
abbrev pub line_bytes : TextLineOf → List ℕ
line_bytes line = if line.ended then line.text ++ line_feed ∷ [] else line.text
