use Rattle.gen_law.proofs.Squares.{two_terms, square_of_sum}
use Rattle.gen_law.proofs.numbers.squares_of_forms.Goals as goal

pub returns-clause-form : goal.returns-clause-form
returns-clause-form c = two_terms

pub returns-clause-sum : goal.returns-clause-sum
returns-clause-sum c = square_of_sum
