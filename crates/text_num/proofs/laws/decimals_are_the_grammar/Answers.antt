use Rattle.text_num.proofs.Grammar.{decimal_sound, decimal_complete}
use Rattle.text_num.proofs.laws.decimals_are_the_grammar.Goals as goal

pub returns-clause-sound : goal.returns-clause-sound
returns-clause-sound c = decimal_sound

pub returns-clause-complete : goal.returns-clause-complete
returns-clause-complete c = decimal_complete
