use Rattle.bound_log.proofs.GrammarLemmas.{a_text_is_one}
use Rattle.bound_log.proofs.grammar_laws.a_text_is_one_line.Goals as goal

pub returns : goal.returns
returns c = a_text_is_one
