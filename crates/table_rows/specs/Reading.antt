-- Where a reader of `csv` stands between two records, and what it has left. This project's own.
use Rattle.std.specs.Prelude.{ℕ, List, [], ◌+◌, ◌≡◌, true, false, length, map, Option, Some, None}
use Rattle.csv.specs.Machine.{ends_at_end}
use Rattle.csv.specs.Reading.{Ready, default_config, is_flexible, reader_config, reader_state, reader_trim, records_from, source_of}
use Rattle.csv.specs.declared.reader.Reader.{Reader}
use Rattle.csv.specs.declared.reader.Trim.TheVariants as trimmed
use Rattle.csv.specs.declared.parser.State.{State}
use Rattle.table_rows.specs.Rows.{texts_of, without_blanks}

-- the records of the bytes that are left, from a state, by their fields' texts
unfoldable pub texts_from : State → Option (List ℕ) → List (List (List ℕ))
texts_from state None = []
texts_from state (Some bytes) = map texts_of (records_from default_config (length bytes + 1) state bytes)

-- the records that a reader has left, by their fields' texts
abbrev pub texts_left : {R : Type 0} → (R → Option (List ℕ)) → Reader R → List (List (List ℕ))
texts_left remaining reader = texts_from (reader_state reader) (source_of remaining reader)

-- the same without the blank ones
abbrev pub rows_left : {R : Type 0} → (R → Option (List ℕ)) → Reader R → List (List (List ℕ))
rows_left remaining reader = without_blanks (texts_left remaining reader)

-- a reader of one text stands between two records, takes no header row, trims nothing and lets lengths differ
pub record StandsBetween {R : Type 0} (remaining : R → Option (List ℕ)) (reader : Reader R) : Type 0 where
  pub config : reader_config reader ≡ default_config
  pub as_it_stands : reader_trim reader ≡ trimmed.None
  pub ready : Ready reader
  pub lengths_differ : is_flexible reader ≡ true
  pub between : ends_at_end (reader_state reader) ≡ false
  pub bytes : List ℕ
  pub known : source_of remaining reader ≡ Some bytes
