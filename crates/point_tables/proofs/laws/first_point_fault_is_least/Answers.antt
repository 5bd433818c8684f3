use Rattle.table_rows.proofs.LeastFault.{first_fault-least}
use Rattle.point_tables.specs.PointTable.{points_fault, points_table}
use Rattle.point_tables.proofs.laws.first_point_fault_is_least.Goals as goal

pub returns : goal.returns
unfolding points_fault
returns c = λ bytes. first_fault-least points_table bytes
