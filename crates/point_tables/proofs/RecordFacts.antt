-- The point that a record gives, and the answer of a table that was refused.
use Rattle.std.proofs.Common.{◌≡◌, ℕ, List, Option, refl}
use Rattle.std.specs.Prelude.{Err}
use Rattle.table_columns.specs.declared.refusal.Refusal.{Refusal}
use Rattle.table_columns.specs.declared.refusal.Refusal.TheVariants as refusal
use Rattle.table_columns.specs.Columns.{name_at}
use Rattle.table_columns.specs.Read.{AnswersBy}
use Rattle.point_tables.specs.declared.columns.PointColumns.{PointColumns}
use Rattle.point_tables.specs.declared.fault.FaultKind.{FaultKind}
use Rattle.point_tables.specs.declared.fault.TableName.{TableName}
use Rattle.point_tables.specs.Columns.{Answers, answer_of}
use Rattle.point_tables.specs.PointTable.{point_of}
use Rattle.point_tables.specs.Read.{IsColumns}

pub read-point : (row : List (List ℕ)) (name : List ℕ) (columns : PointColumns) → name ≡ name_at row → IsColumns row columns
    → record { name = name; x = columns.x; y = columns.y; z = columns.z; plane = columns.plane; height = columns.height } ≡ point_of row
unfolding point_of
read-point row name columns same is = rw (same, is.x.value, is.y.value, is.z.value, is.plane.value, is.height.value) refl

-- what a table answers that was refused
pub answers-refused : {V : Type 0} (table : TableName) (fault : Option (ℕ × FaultKind)) (values : List V) (refused : Refusal FaultKind)
    → AnswersBy {R = List V} (λ read. read) fault values (Err refused) → Answers table fault values (Err (answer_of table refused))
answers-refused table fault values (refusal.Broken number broken) answers = (answers, refl)
answers-refused table fault values refusal.NoMemory answers = tt
