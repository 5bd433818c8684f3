use Rattle.bound_log.proofs.NumberLemmas.{numeral_of, number_of_numeral, value_of_number}
use Rattle.bound_log.proofs.grammar_laws.numbers_are_numerals.Goals as goal

pub returns-clause-numeral : goal.returns-clause-numeral
returns-clause-numeral c = λ text number is. (numeral_of text number is, value_of_number text number is)

pub returns-clause-number : goal.returns-clause-number
returns-clause-number c = number_of_numeral
