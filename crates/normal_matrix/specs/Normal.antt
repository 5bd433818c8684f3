-- A normal matrix that is kept while candidates come and go. This project's own layout.
use Rattle.std.specs.Prelude.{◌≡◌, ℕ, ◌<◌, ◌≤◌, ℤ, Bool, List, length}
use Rattle.whole_algebra.specs.Grid.{entry}
use Rattle.geo_model.specs.Network.{NetworkOf}
use Rattle.normal_matrix.specs.Entries.{normal_entry}

-- the plan, and the rows of a triangle: row k from the diagonal on
pub record NormalOf : Type 0 where
  pub plan : List Bool
  pub rows : List (List ℤ)

-- it is the normal matrix of its plan in this network
pub record IsNormalOf (network : NetworkOf) (normal : NormalOf) : Type 0 where
  pub places : length normal.plan ≡ length network.candidates
  pub size : length normal.rows ≡ length network.unknowns
  pub exact : (i j : ℕ) → i ≤ j → j < length network.unknowns → entry normal.rows i j ≡ normal_entry network.candidates normal.plan i j
