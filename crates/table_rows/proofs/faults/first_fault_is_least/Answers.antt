use Rattle.table_rows.proofs.LeastFault.{first_fault-least}
use Rattle.table_rows.proofs.faults.first_fault_is_least.Goals as goal

pub returns : goal.returns
returns c = λ table bytes. first_fault-least table bytes
