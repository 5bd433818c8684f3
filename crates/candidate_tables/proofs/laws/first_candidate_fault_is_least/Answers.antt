use Rattle.table_rows.proofs.LeastFault.{first_fault-least}
use Rattle.candidate_tables.specs.CandidateTable.{candidates_fault, candidates_table}
use Rattle.candidate_tables.proofs.laws.first_candidate_fault_is_least.Goals as goal

pub returns : goal.returns
unfolding candidates_fault
returns c = λ points bytes. first_fault-least (candidates_table points) bytes
