use Rattle.lent_parts.proofs.PieceLemmas.{lines_of-joined, lines_of-lack, lines_of-unended}
use Rattle.lent_parts.proofs.laws.lines_make_the_text.Goals as goal

pub returns-clause-joined : goal.returns-clause-joined
returns-clause-joined c = lines_of-joined

pub returns-clause-cut : goal.returns-clause-cut
returns-clause-cut c = lines_of-lack

pub returns-clause-unended : goal.returns-clause-unended
returns-clause-unended c = lines_of-unended
