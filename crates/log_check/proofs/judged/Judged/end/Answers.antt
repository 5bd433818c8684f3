use Rattle.log_check.specs.Fed.{at_fault}
use Rattle.std.proofs.Common.{refl}
use Rattle.log_check.proofs.judged.Judged.end.Goals as goal

pub returns-in-Some : goal.returns-in-Some
returns-in-Some c = at_fault c.in-Some.fault c.in-Some.is refl
