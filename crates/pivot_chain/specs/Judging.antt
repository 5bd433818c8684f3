-- What a verdict is reckoned from, in the words of the private functions that reckon it. This project's own.
use Rattle.std.specs.Prelude.{ℤ, List}
use Rattle.limit_forms.specs.Grid.{lower_grid, upper_grid, IsFormOnGrid}
use Rattle.pivot_chain.specs.declared.grids.Grids.{Grids}

-- its two grid matrices
abbrev pub lower_of : Grids → List (List ℤ)
lower_of grids = lower_grid grids.network.now grids.normal.now.plan grids.alpha grids.squares.now

abbrev pub upper_of : Grids → List (List ℤ)
upper_of grids = upper_grid grids.network.now grids.normal.now.plan grids.alpha grids.squares.now

-- the normal matrix is one of the network, the grid is that of the limit, and the limit keeps its bounds
abbrev pub IsMade : Grids → Type 0
IsMade grids = IsFormOnGrid grids.network.now grids.normal.now grids.grid.now grids.alpha grids.squares.now
