-- The records of a table. The reading of the bytes is RFC 4180 as `csv` takes it; the rest is this project's own.
use Rattle.std.specs.Prelude.{ℕ, List, [], ◌∷◌, Bool, true, false, not, map, filter}
use Rattle.csv.specs.Reading.{records, default_config, strip_bom}
use Rattle.table_rows.specs.FieldText.{field_text}

-- the texts of a record's fields
abbrev pub texts_of : List (List ℕ) → List (List ℕ)
texts_of fields = map field_text fields

-- whether a record has a single field, whose text is empty
abbrev pub is_blank : List (List ℕ) → Bool
is_blank [] = false
is_blank ([] ∷ []) = true
is_blank ([] ∷ second ∷ rest) = false
is_blank ((byte ∷ text) ∷ rest) = false

-- the records that aren't blank
unfoldable pub without_blanks : List (List (List ℕ)) → List (List (List ℕ))
without_blanks rows = filter (λ row. not (is_blank row)) rows

-- the records of a table by their fields' texts: those of the bytes after one byte order mark, without the blank ones
unfoldable pub table_rows : List ℕ → List (List (List ℕ))
table_rows bytes = without_blanks (map texts_of (records default_config (strip_bom bytes)))
