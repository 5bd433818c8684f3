-- A table of lines of plain texts, parted by commas: its records are these texts.
use Rattle.std.proofs.Common.{◌≡◌, ◌∙◌, ◌≤◌, ◌+◌, ℕ, zero, suc, true, List, [], ◌∷◌, ◌++◌, Some, length, map, refl, sym, ap, ap₂, arith, append_assoc, length-append}
use Rattle.std.specs.List.{AllByRecursion}
use Rattle.std.proofs.lemmas.Bool.{ne_eqb}
use Rattle.csv.specs.Machine.{next_record}
use Rattle.csv.specs.Reading.{default_config, records, records_from, strip_bom}
use Rattle.csv.specs.Writing.{default_writer, fields_text, is_blank as is_blank_row, read_back, row_text}
use Rattle.csv.specs.Writing.{field_text as written}
use Rattle.csv.specs.declared.parser.State.TheVariants as st
use Rattle.csv.proofs.RoundTrip.{read-write, rows_text}
use Rattle.table_rows.specs.Header.{rows_under, same_texts}
use Rattle.table_rows.specs.Mark.{HasSecondMark}
use Rattle.table_rows.specs.Rows.{table_rows, texts_of, without_blanks}
use Rattle.table_rows.proofs.HeaderFacts.{under-header}
use Rattle.gen_texts.proofs.PlainTexts.{IsPlain, plain-bare, plain-field}

-- a line's texts after the first one, and its end
unfoldable pub line_rest : List (List ℕ) → List ℕ
line_rest [] = 10 ∷ []
line_rest (field ∷ fields) = 44 ∷ (field ++ line_rest fields)

-- a line of texts
abbrev pub line : List ℕ → List (List ℕ) → List ℕ
line first rest = first ++ line_rest rest

-- each text is plain, and there are two and more
abbrev pub IsLine : List (List ℕ) → Type 0
IsLine [] = ⊥
IsLine (first ∷ []) = ⊥
IsLine (first ∷ second ∷ rest) = AllByRecursion IsPlain (first ∷ second ∷ rest)

-- the text of lines
abbrev pub lines : List (List (List ℕ)) → List ℕ
lines [] = []
lines ([] ∷ rows) = lines rows
lines ((first ∷ rest) ∷ rows) = line first rest ++ lines rows

-- ---- a line is what csv writes

bare : (text : List ℕ) → IsPlain text → written default_writer text ≡ text
bare text all = rw (plain-bare text all) refl

rest-written : (fields : List (List ℕ)) → AllByRecursion IsPlain fields → fields_text default_writer fields ++ (10 ∷ []) ≡ line_rest fields
unfolding fields_text line_rest
rest-written [] all = refl
rest-written (field ∷ fields) (here, all) =
    rw (bare field here) (ap (λ (t : List ℕ). 44 ∷ t) (append_assoc field (fields_text default_writer fields) (10 ∷ []) ∙ ap (λ (t : List ℕ). field ++ t) (rest-written fields all)))

row-written : (first second : List ℕ) (rest : List (List ℕ)) → AllByRecursion IsPlain (first ∷ second ∷ rest) → row_text default_writer (first ∷ second ∷ rest) ≡ line first (second ∷ rest)
unfolding is_blank_row
row-written first second rest (here, all) =
    rw (bare first here) (append_assoc first (fields_text default_writer (second ∷ rest)) (10 ∷ []) ∙ ap (λ (t : List ℕ). first ++ t) (rest-written (second ∷ rest) all))

pub lines-written : (rows : List (List (List ℕ))) → AllByRecursion IsLine rows → lines rows ≡ rows_text rows
unfolding rows_text
lines-written [] all = refl
lines-written ([] ∷ rows) (here, all) = absurd here
lines-written ((first ∷ []) ∷ rows) (here, all) = absurd here
lines-written ((first ∷ second ∷ rest) ∷ rows) (here, all) =
    ap₂ (λ (s t : List ℕ). s ++ t) (sym (row-written first second rest here)) (lines-written rows all)

-- ---- the records

-- there are no more rows than bytes
row-some : (row : List (List ℕ)) → 1 ≤ length (row_text default_writer row)
row-some row = ends _ _
  where
    ends : (a b : List ℕ) → 1 ≤ length (a ++ (b ++ (10 ∷ [])))
    ends a b = omega (arith, length-append a (b ++ (10 ∷ [])), length-append b (10 ∷ []))

rows-few : (rows : List (List (List ℕ))) → length rows ≤ length (rows_text rows)
unfolding rows_text
rows-few [] = omega arith
rows-few (row ∷ rows) = omega (arith, length-append (row_text default_writer row) (rows_text rows), row-some row, rows-few rows)

records-more : (rows : List (List (List ℕ))) (n : ℕ) → length rows ≤ n → records_from default_config n st.StartRecord (rows_text rows) ≡ map read_back rows
unfolding records_from rows_text next_record
records-more [] zero h = refl
records-more [] (suc n) h = refl
records-more (row ∷ rows) zero h = absurd (omega arith)
records-more (row ∷ rows) (suc n) h =
    rw (read-write row (rows_text rows)) (ap (λ (t : List (List (List ℕ))). read_back row ∷ t) (records-more rows n (omega arith)))

back : (rows : List (List (List ℕ))) → AllByRecursion IsLine rows → map read_back rows ≡ rows
back [] all = refl
back ([] ∷ rows) (here, all) = absurd here
back ((first ∷ rest) ∷ rows) (here, all) = ap (λ (t : List (List (List ℕ))). (first ∷ rest) ∷ t) (back rows all)

records-are : (rows : List (List (List ℕ))) → AllByRecursion IsLine rows → records default_config (rows_text rows) ≡ rows
records-are rows all = records-more rows (length (rows_text rows) + 1) (more (length rows) (length (rows_text rows)) (rows-few rows)) ∙ back rows all
  where
    more : (m n : ℕ) → m ≤ n → m ≤ n + 1
    more m n h = omega arith

-- ---- their texts

texts-plain : (fields : List (List ℕ)) → AllByRecursion IsPlain fields → texts_of fields ≡ fields
texts-plain [] all = refl
texts-plain (field ∷ fields) (here, all) = ap₂ (λ (s : List ℕ) (t : List (List ℕ)). s ∷ t) (plain-field field here) (texts-plain fields all)

all-texts : (rows : List (List (List ℕ))) → AllByRecursion IsLine rows → map texts_of rows ≡ rows
all-texts [] all = refl
all-texts ([] ∷ rows) (here, all) = absurd here
all-texts ((first ∷ []) ∷ rows) (here, all) = absurd here
all-texts ((first ∷ second ∷ rest) ∷ rows) (here, all) =
    ap₂ (λ (s : List (List ℕ)) (t : List (List (List ℕ))). s ∷ t) (texts-plain (first ∷ second ∷ rest) here) (all-texts rows all)

none-blank : (rows : List (List (List ℕ))) → AllByRecursion IsLine rows → without_blanks rows ≡ rows
unfolding without_blanks
none-blank [] all = refl
none-blank ([] ∷ rows) (here, all) = absurd here
none-blank ((first ∷ []) ∷ rows) (here, all) = absurd here
none-blank (([] ∷ second ∷ rest) ∷ rows) (here, all) = ap (λ (t : List (List (List ℕ))). ([] ∷ second ∷ rest) ∷ t) (none-blank rows all)
none-blank (((byte ∷ first) ∷ second ∷ rest) ∷ rows) (here, all) = ap (λ (t : List (List (List ℕ))). ((byte ∷ first) ∷ second ∷ rest) ∷ t) (none-blank rows all)

-- ---- no mark at the start

strip-plain : (b : ℕ) (text : List ℕ) → b ≤ 126 → strip_bom (b ∷ text) ≡ b ∷ text
unfolding strip_bom
strip-plain b [] h = refl
strip-plain b (c ∷ []) h = refl
strip-plain b (c ∷ d ∷ text) h = rw (ne_eqb b 0xEF (λ e. absurd (omega (arith, e)))) refl

pub rows-read : (rows : List (List (List ℕ))) (b : ℕ) (text : List ℕ) → AllByRecursion IsLine rows → lines rows ≡ b ∷ text → b ≤ 126 → table_rows (lines rows) ≡ rows
unfolding table_rows
rows-read rows b text all begins low =
    let unmarked : strip_bom (lines rows) ≡ rows_text rows = rw begins (strip-plain b text low) ∙ sym begins ∙ lines-written rows all in
    ap (λ (t : List ℕ). without_blanks (map texts_of (records default_config t))) unmarked
    ∙ ap (λ (t : List (List (List ℕ))). without_blanks (map texts_of t)) (records-are rows all)
    ∙ ap without_blanks (all-texts rows all) ∙ none-blank rows all

no-mark : (b : ℕ) (text bytes : List ℕ) → bytes ≡ b ∷ text → b ≤ 126 → HasSecondMark bytes → ⊥
no-mark b text bytes begins low (rest, marked) = clash b (same b text (0xBB ∷ 0xBF ∷ 0xEF ∷ 0xBB ∷ 0xBF ∷ rest) (sym begins ∙ marked)) low
  where
    same : (b : ℕ) (s t : List ℕ) → b ∷ s ≡ 0xEF ∷ t → b ≡ 0xEF
    same b s t e = cc e

    clash : (b : ℕ) → b ≡ 0xEF → b ≤ 126 → ⊥
    clash b e h = omega arith

-- the records under a header row
pub under-read : (header : List (List ℕ)) (rows : List (List (List ℕ))) (b : ℕ) (text : List ℕ) → AllByRecursion IsLine (header ∷ rows) → lines (header ∷ rows) ≡ b ∷ text → b ≤ 126
    → same_texts header header ≡ true → rows_under header (lines (header ∷ rows)) ≡ Some rows
under-read header rows b text all begins low same =
    sym (under-header header (lines (header ∷ rows)) header rows (no-mark b text (lines (header ∷ rows)) begins low) (rows-read (header ∷ rows) b text all begins low) same)
