-- The fields of a generated table as text. This project's own.
use Rattle.std.specs.Prelude.{ℕ, List, ◌++◌, codes, pos}
use Rattle.std.specs.Fmt.{decimal}
use Rattle.text_num.specs.DecimalText.{decimal_text}

-- a text and the comma after it
abbrev pub field : List ℕ → List ℕ
field text = text ++ codes ","

-- millimetres as metres with three places
abbrev pub metres : ℕ → List ℕ
metres mm = decimal_text (pos mm) 3

-- tenths of a millimetre as millimetres with one place
abbrev pub tenths : ℕ → List ℕ
tenths count = decimal_text (pos count) 1

-- a letter and a number: the name of a point or of a candidate
abbrev pub label : List ℕ → ℕ → List ℕ
label letter number = letter ++ decimal number
