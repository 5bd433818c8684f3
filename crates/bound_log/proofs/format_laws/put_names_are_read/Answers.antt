use Rattle.bound_log.specs.CutText.{text_of_cut}
use Rattle.bound_log.specs.declared.named_line.NamedLine.TheVariants.{Named}
use Rattle.bound_log.proofs.MoveLemmas.{cut_text_short}
use Rattle.bound_log.proofs.NamedLemmas.{IsNamedLine-body}
use Rattle.bound_log.proofs.UseRuleLemmas.{use_dual_read, use_read}
use Rattle.bound_log.proofs.format_laws.put_names_are_read.Goals as goal

pub returns-clause-named : goal.returns-clause-named
returns-clause-named c = λ cut limit long narrow. IsNamedLine-body (Named (text_of_cut cut)) (cut_text_short cut limit long narrow)

pub returns-clause-used : goal.returns-clause-used
returns-clause-used c = use_read

pub returns-clause-dual : goal.returns-clause-dual
returns-clause-dual c = use_dual_read
