-- The header row of a table, which is its first record. This project's own.
use Rattle.std.specs.Prelude.{ℕ, List, [], ◌∷◌, Bool, if◌then◌else◌, Option, Some, None}
use Rattle.std.specs.Cmp.Lexicographic.{pointwise}
use Rattle.std.specs.Str.{bytes_eq}
use Rattle.table_rows.specs.Mark.{has_second_mark}
use Rattle.table_rows.specs.Rows.{table_rows}

-- whether two records have the same texts
abbrev pub same_texts : List (List ℕ) → List (List ℕ) → Bool
same_texts row texts = pointwise bytes_eq row texts

-- the records under the first one, where that is the header
unfoldable pub rows_below : List (List ℕ) → List (List (List ℕ)) → Option (List (List (List ℕ)))
rows_below header [] = None
rows_below header (row ∷ rows) = if same_texts row header then Some rows else None

-- the records of a table under its header row; none where record 1 isn't this header or a second mark follows the first
unfoldable pub rows_under : List (List ℕ) → List ℕ → Option (List (List (List ℕ)))
rows_under header bytes = if has_second_mark bytes then None else rows_below header (table_rows bytes)
