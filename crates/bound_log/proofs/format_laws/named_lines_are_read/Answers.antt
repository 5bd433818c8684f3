use Rattle.std.proofs.Common.{refl}
use Rattle.bound_log.specs.declared.log_format.LogFormat.TheVariants.{Second}
use Rattle.bound_log.proofs.FormatLemmas.{lines_of-texts_in}
use Rattle.bound_log.proofs.NamedLemmas.{IsNamedLine-body}
use Rattle.bound_log.proofs.format_laws.named_lines_are_read.Goals as goal

pub returns-clause-ended : goal.returns-clause-ended
returns-clause-ended c = λ line. refl

pub returns-clause-read : goal.returns-clause-read
returns-clause-read c = IsNamedLine-body

pub returns-clause-cut : goal.returns-clause-cut
returns-clause-cut c = lines_of-texts_in Second
