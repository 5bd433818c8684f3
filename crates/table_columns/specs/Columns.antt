-- The rules that the columns of every table share, over any kind of fault. This project's own.
use Rattle.std.specs.Prelude.{ℕ, ℤ, ◌≡◌, ◌≤ℤ◌, ◌==◌, ◌++◌, List, [], ◌∷◌, Bool, not, false, ◌&&◌, length, map, nat_lt, int_le, Some, is_none, unwrap_or, slice_get}
use Rattle.std.specs.List.{list_all}
use Rattle.std.specs.Option.{option_map_or}
use Rattle.std.specs.Str.{is_utf8}
use Rattle.text_num.specs.Decimal.{decimal_of}
use Rattle.table_rows.specs.Faults.{Rule, TableRules}
use Rattle.table_columns.specs.declared.kinds.NameKinds.{NameKinds}
use Rattle.table_columns.specs.declared.kinds.NumberKinds.{NumberKinds}
use Rattle.table_columns.specs.declared.shape.Shape.{Shape}
use Rattle.table_columns.specs.Names.{is_among, is_name}

-- a rule: whether it is broken, and the kind of fault that this is
abbrev pub rule : {K : Type 0} → Bool → K → Rule K
rule broken kind = record { broken = broken; kind = kind }

-- the text at a place of a record, counted from 0, and no text where the record ends before it
abbrev pub text_at : List (List ℕ) → ℕ → List ℕ
text_at row place = unwrap_or (slice_get row place) []

-- the name that a record gives
abbrev pub name_at : List (List ℕ) → List ℕ
name_at row = text_at row 0

-- whether a text is empty
abbrev pub is_empty : List ℕ → Bool
is_empty text = length text == 0

-- the rules of a record as a whole: its number is at most this, it has so many fields, and each text is UTF-8
unfoldable pub record_rules : {K : Type 0} → Shape K → ℕ → List (List ℕ) → List (Rule K)
record_rules shape number row =
    rule (nat_lt shape.most number) shape.too_many
    ∷ rule (not (length row == shape.fields)) shape.other_fields
    ∷ rule (not (list_all is_utf8 row)) shape.not_utf8
    ∷ []

-- the rules of a name: it is one, and no earlier record has it
unfoldable pub name_rules : {K : Type 0} → NameKinds K → List ℕ → List (List ℕ) → List (Rule K)
name_rules kinds name earlier = rule (not (is_name name)) kinds.name ∷ rule (is_among name earlier) kinds.twice ∷ []

-- whether a number is outside these bounds
abbrev pub is_outside : ℤ → ℤ → ℤ → Bool
is_outside least most value = not (int_le least value && int_le value most)

-- the rules of a number: it is a decimal with so many places, and within these bounds, all in units of the last place
unfoldable pub number_rules : {K : Type 0} → NumberKinds K → ℕ → ℤ → ℤ → List ℕ → List (Rule K)
number_rules kinds places least most text =
    rule (is_none (decimal_of places text)) kinds.number
    ∷ rule (option_map_or (is_outside least most) (decimal_of places text) false) kinds.range
    ∷ []

-- a value is the one that a text writes, within these bounds
pub record IsNumber (places : ℕ) (least most : ℤ) (text : List ℕ) (value : ℤ) : Type 0 where
  pub written : decimal_of places text ≡ Some value
  pub low : least ≤ℤ value
  pub high : value ≤ℤ most

-- ---- tables whose records have names

-- what a table asks whose first column is a name: its header row, what it asks of a record as a whole and of a name, and
-- the rules of the columns after the name
pub record NamedRules (K : Type 0) : Type 0 where
  pub header : List (List ℕ)
  pub shape : Shape K
  pub name : NameKinds K
  pub columns : List (List ℕ) → List (Rule K)

-- the rules of a record by its number and the names of the earlier records
unfoldable pub named_rules : {K : Type 0} → NamedRules K → ℕ → List (List ℕ) → List (List ℕ) → List (Rule K)
named_rules asks number row names =
    record_rules asks.shape number row ++ (name_rules asks.name (name_at row) names ++ asks.columns row)

-- the same as a table's
abbrev pub named_table : {K : Type 0} → NamedRules K → TableRules K
named_table asks = record {
  header = asks.header;
  header_kind = asks.shape.header;
  rules = λ number row earlier. named_rules asks number row (map name_at earlier);
}
