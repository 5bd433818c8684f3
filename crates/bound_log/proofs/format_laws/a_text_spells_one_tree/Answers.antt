use Rattle.bound_log.proofs.MeaningLemmas.{spell_same}
use Rattle.bound_log.proofs.format_laws.a_text_spells_one_tree.Goals as goal

pub returns : goal.returns
returns c = λ a b text cuts others tree other first second.
    let same = spell_same a b text cuts others tree other first second in
    (same.format, same.cuts, same.trees)
