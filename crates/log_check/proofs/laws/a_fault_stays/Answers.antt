use Rattle.log_check.proofs.LongerLemmas.{fault_stays}
use Rattle.log_check.proofs.laws.a_fault_stays.Goals as goal

pub returns : goal.returns
returns c = fault_stays
