use Rattle.pivot_chain.specs.Room.{HasEachLength}
use Rattle.pivot_chain.proofs.row_squares.squares_by_length.Given as goal

abbrev pub invariant-lengths : goal.invariant-lengths
invariant-lengths l = HasEachLength l.count l.squares.items
