-- The room in which verdicts are reckoned. This project's own layout.
use Rattle.std.specs.Prelude.{◌≡◌, ℕ, ℤ, List, Some, length, slice_get}
use Rattle.geo_model.specs.Limit.{SquareOf}
use Rattle.geo_model.specs.Network.{NetworkOf}
use Rattle.normal_matrix.specs.Normal.{NormalOf, IsNormalOf}
use Rattle.limit_forms.specs.Form.{IsFullDiagonal}
use Rattle.limit_forms.specs.Grid.{GridOf}

-- two normal matrices, a grid, the diagonal of the normal matrix of all candidates, rows of the two grid matrices of a
-- limit, the rows of a chain, and their counts of quotients that aren't whole
pub record ChainsOf : Type 0 where
  pub normal : NormalOf
  pub other : NormalOf
  pub grid : GridOf
  pub diagonal : List ℤ
  pub lower : List (List ℤ)
  pub upper : List (List ℤ)
  pub rows : List (List ℤ)
  pub gaps : List (List ℤ)

-- The chains of this network can be run in it, whatever plan and limit it was used for before: its normal matrices are
-- each the one of some plan, and it has a place for each unknown.
pub record IsChainsOf (network : NetworkOf) (chains : ChainsOf) : Type 0 where
  pub normal : IsNormalOf network chains.normal
  pub other : IsNormalOf network chains.other
  pub grid : length chains.grid.order ≡ length network.unknowns
  pub diagonal : IsFullDiagonal network chains.diagonal
  pub lower : length chains.lower ≡ length network.unknowns
  pub upper : length chains.upper ≡ length network.unknowns
  pub rows : length chains.rows ≡ length network.unknowns
  pub gaps : length chains.gaps ≡ length network.unknowns

-- what chains are run in, and squares of rows
pub record RoomOf : Type 0 where
  pub chains : ChainsOf
  pub squares : List SquareOf

-- so many squares, with so many entries as the number of each
pub record HasEachLength (count : ℕ) (squares : List SquareOf) : Type 0 where
  pub places : length squares ≡ count
  pub each : (k : ℕ) (square : SquareOf) → slice_get squares k ≡ Some square → length square.entries ≡ k

-- the room is one for this network, and has a square for each number of entries of a row, from none to six
pub record IsRoomOf (network : NetworkOf) (room : RoomOf) : Type 0 where
  pub chains : IsChainsOf network room.chains
  pub squares : HasEachLength 7 room.squares
