-- A field's text: its bytes without the spaces at either end. This project's own.
use Rattle.std.specs.Prelude.{ℕ, List, [], ◌∷◌, ◌++◌, ◌==◌, ◌≡◌, ◌≢◌, replicate, Bool, if◌then◌else◌}

-- a byte before others, but a space alone is nothing
abbrev pub before_rest : ℕ → List ℕ → List ℕ
before_rest byte [] = if byte == 0x20 then [] else byte ∷ []
before_rest byte (next ∷ rest) = byte ∷ next ∷ rest

-- the bytes from the first one on that is no space
unfoldable pub without_front_spaces : List ℕ → List ℕ
without_front_spaces [] = []
without_front_spaces (byte ∷ rest) = if byte == 0x20 then without_front_spaces rest else byte ∷ rest

-- the bytes up to the last one that is no space
unfoldable pub without_back_spaces : List ℕ → List ℕ
without_back_spaces [] = []
without_back_spaces (byte ∷ rest) = before_rest byte (without_back_spaces rest)

-- the bytes without the spaces at either end
unfoldable pub field_text : List ℕ → List ℕ
field_text field = without_back_spaces (without_front_spaces field)

-- the text begins with no space
abbrev pub BeginsPlain : List ℕ → Type 0
BeginsPlain text = (rest : List ℕ) → text ≢ 0x20 ∷ rest

-- the text ends with no space
abbrev pub EndsPlain : List ℕ → Type 0
EndsPlain text = (rest : List ℕ) → text ≢ rest ++ 0x20 ∷ []

-- the field is the text with so many spaces before and behind, and the text itself begins and ends with none
pub record IsTextOf (field text : List ℕ) : Type 0 where
  pub before : ℕ
  pub behind : ℕ
  pub whole : field ≡ replicate before 0x20 ++ text ++ replicate behind 0x20
  pub begins : BeginsPlain text
  pub ends : EndsPlain text
