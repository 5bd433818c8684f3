use Rattle.gen_law.proofs.RowSums.{rows_are_sums, unknowns_move, others_stay}
use Rattle.gen_law.proofs.rows.rows_are_sums_of_terms.Goals as goal

pub returns-clause-sums : goal.returns-clause-sums
returns-clause-sums c = rows_are_sums

pub returns-clause-moved : goal.returns-clause-moved
returns-clause-moved c = unknowns_move

pub returns-clause-fixed : goal.returns-clause-fixed
returns-clause-fixed c = others_stay
