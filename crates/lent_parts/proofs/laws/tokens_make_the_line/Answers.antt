use Rattle.lent_parts.proofs.PieceLemmas.{tokens_of-joined, tokens_of-only, tokens_of-slices}
use Rattle.lent_parts.proofs.laws.tokens_make_the_line.Goals as goal

pub returns-clause-slices : goal.returns-clause-slices
returns-clause-slices c = tokens_of-slices

pub returns-clause-joined : goal.returns-clause-joined
returns-clause-joined c = tokens_of-joined

pub returns-clause-only : goal.returns-clause-only
returns-clause-only c = tokens_of-only
