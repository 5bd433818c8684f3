-- The byte order mark at the start of a text: U+FEFF in UTF-8 (RFC 3629, section 6).
use Rattle.std.specs.Prelude.{ℕ, List, [], ◌∷◌, ◌≡◌, Bool, false}
use Rattle.csv.specs.Reading.{is_bom, strip_bom}

-- the text begins with two marks, so that one is left where one has been taken off
abbrev pub HasSecondMark : List ℕ → Type 0
HasSecondMark bytes = (rest : List ℕ) × (bytes ≡ 0xEF ∷ 0xBB ∷ 0xBF ∷ 0xEF ∷ 0xBB ∷ 0xBF ∷ rest)

-- whether a text begins with the mark
abbrev pub starts_with_mark : List ℕ → Bool
starts_with_mark [] = false
starts_with_mark (a ∷ []) = false
starts_with_mark (a ∷ b ∷ []) = false
starts_with_mark (a ∷ b ∷ c ∷ rest) = is_bom a b c

-- whether what is left after one mark begins with another
unfoldable pub has_second_mark : List ℕ → Bool
has_second_mark bytes = starts_with_mark (strip_bom bytes)
