use Rattle.std.proofs.Common.{arith}
use Rattle.normal_matrix.proofs.sums.entry_of.Goals as goal

pub bounds-row-j : goal.bounds-row-j
bounds-row-j c = let places = c.row.ensures.places in omega arith

pub bounds-row-i : goal.bounds-row-i
bounds-row-i c = let places = c.row-else-i-j.ensures.places in omega arith
