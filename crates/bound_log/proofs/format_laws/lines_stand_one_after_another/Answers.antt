use Rattle.std.proofs.Common.{refl}
use Rattle.bound_log.proofs.MeaningLemmas.{cuts_named-first, lacking_alone, named_first, nodes_in-append, nodes_in-first, standing_alone}
use Rattle.bound_log.proofs.format_laws.lines_stand_one_after_another.Goals as goal

pub returns-clause-more : goal.returns-clause-more
returns-clause-more c = nodes_in-append

pub returns-clause-names : goal.returns-clause-names
returns-clause-names c = named_first

pub returns-clause-first : goal.returns-clause-first
returns-clause-first c = λ cuts lines. (nodes_in-first cuts lines, cuts_named-first lines)

pub returns-clause-none : goal.returns-clause-none
returns-clause-none c = λ format cuts. refl

pub returns-clause-one : goal.returns-clause-one
returns-clause-one c = standing_alone

pub returns-clause-lacks : goal.returns-clause-lacks
returns-clause-lacks c = lacking_alone
