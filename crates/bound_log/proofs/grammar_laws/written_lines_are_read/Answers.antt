use Rattle.std.proofs.Common.{refl}
use Rattle.bound_log.proofs.GrammarLemmas.{IsLine-body, lines_of-lines_text}
use Rattle.bound_log.proofs.grammar_laws.written_lines_are_read.Goals as goal

pub returns-clause-ended : goal.returns-clause-ended
returns-clause-ended c = λ line. refl

pub returns-clause-read : goal.returns-clause-read
returns-clause-read c = IsLine-body

pub returns-clause-cut : goal.returns-clause-cut
returns-clause-cut c = lines_of-lines_text
