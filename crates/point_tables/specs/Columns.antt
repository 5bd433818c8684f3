-- The kinds of fault that the rules shared by every table have in the tables of points and of candidates, and what a
-- reading of one of these tables answers. This project's own.
use Rattle.std.specs.Prelude.{ℕ, ◌≡◌, Option, Some, None, Result, Ok, Err}
use Rattle.table_columns.specs.declared.kinds.NameKinds.{NameKinds}
use Rattle.table_columns.specs.declared.kinds.NumberKinds.{NumberKinds}
use Rattle.table_columns.specs.declared.refusal.Refusal.{Refusal}
use Rattle.table_columns.specs.declared.refusal.Refusal.TheVariants as refusal
use Rattle.table_columns.specs.declared.shape.Shape.{Shape}
use Rattle.point_tables.specs.declared.fault.FaultKind.{FaultKind}
use Rattle.point_tables.specs.declared.fault.FaultKind.TheVariants as kind
use Rattle.point_tables.specs.declared.fault.TableAnswer.{TableAnswer}
use Rattle.point_tables.specs.declared.fault.TableAnswer.TheVariants as answer
use Rattle.point_tables.specs.declared.fault.TableName.{TableName}

-- the kinds of fault of a name
abbrev pub name_kinds : NameKinds FaultKind
name_kinds = record { name = kind.Name; twice = kind.Twice }

-- the kinds of fault of a number
abbrev pub number_kinds : NumberKinds FaultKind
number_kinds = record { number = kind.Number; range = kind.Range }

-- a table whose largest record has this number, and whose records have so many fields
abbrev pub shape_of : ℕ → ℕ → Shape FaultKind
shape_of most fields = record {
  most = most;
  fields = fields;
  header = kind.Header;
  too_many = kind.TooMany;
  other_fields = kind.Fields;
  not_utf8 = kind.Utf8;
}

-- the answer of a table that was refused
abbrev pub answer_of : TableName → Refusal FaultKind → TableAnswer
answer_of table (refusal.Broken number kind) = answer.Fault (record { table = table; number = number; kind = kind })
answer_of table refusal.NoMemory = answer.NoMemory

-- a table has no fault and stands for what was read, or the answer is its first fault, or memory ran out
abbrev pub Answers : {V : Type 0} → TableName → Option (ℕ × FaultKind) → V → Result V TableAnswer → Type 0
Answers table fault value (Ok read) = (fault ≡ None) × (read ≡ value)
Answers table fault value (Err (answer.Fault found)) = (fault ≡ Some (found.number, found.kind)) × (found.table ≡ table)
Answers table fault value (Err answer.NoMemory) = Unit {0}
