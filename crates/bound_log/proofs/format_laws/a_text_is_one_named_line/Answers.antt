use Rattle.bound_log.proofs.NamedLemmas.{a_text_is_one_named}
use Rattle.bound_log.proofs.format_laws.a_text_is_one_named_line.Goals as goal

pub returns : goal.returns
returns c = a_text_is_one_named
