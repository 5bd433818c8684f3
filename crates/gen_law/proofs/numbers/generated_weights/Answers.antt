use Rattle.gen_law.proofs.Coefficients.{weight_of_10, weight_of_15, weight_of_8}
use Rattle.gen_law.proofs.numbers.generated_weights.Goals as goal

pub returns-clause-ten : goal.returns-clause-ten
returns-clause-ten c = weight_of_10

pub returns-clause-fifteen : goal.returns-clause-fifteen
returns-clause-fifteen c = weight_of_15

pub returns-clause-eight : goal.returns-clause-eight
returns-clause-eight c = weight_of_8
