use Rattle.std.proofs.Common.{List, sym, subst}
use Rattle.bound_log.specs.CutText.{CutTextOf}
use Rattle.bound_log.specs.SpellsIn.{SpellsIn}
use Rattle.bound_log.specs.declared.log_format.LogFormat.TheVariants.{First}
use Rattle.bound_log.proofs.MeaningLemmas.{first_spelled, spells_first}
use Rattle.bound_log.proofs.format_laws.a_tree_has_one_first_text.Goals as goal

pub returns : goal.returns
returns c = λ text cuts tree small.
    (first_spelled text cuts tree, λ is. subst (λ (names : List CutTextOf). SpellsIn First text names tree) (sym is.1) (spells_first text tree small is.0))
