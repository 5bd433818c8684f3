use Rattle.design_rows.proofs.BoundFacts.{numbered-accepted, numbered-apart, rows-bounded}
use Rattle.design_rows.proofs.laws.rows_are_within_bounds.Goals as goal

pub returns : goal.returns
returns c = λ points unknowns candidate numbered.
    rows-bounded points unknowns candidate (numbered-apart points unknowns candidate numbered) (numbered-accepted points unknowns candidate numbered)
