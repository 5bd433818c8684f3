use Rattle.log_check.proofs.VerdictLemmas.{logs_have_no_fault, one_first_fault}
use Rattle.log_check.proofs.EveryText.{has_verdict}
use Rattle.log_check.proofs.laws.each_text_has_one_verdict.Goals as goal

pub returns-clause-some : goal.returns-clause-some
returns-clause-some c = has_verdict

pub returns-clause-never_both : goal.returns-clause-never_both
returns-clause-never_both c = logs_have_no_fault

pub returns-clause-one_fault : goal.returns-clause-one_fault
returns-clause-one_fault c = one_first_fault
