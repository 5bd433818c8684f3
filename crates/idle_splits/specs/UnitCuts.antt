use Rattle.std.specs.Prelude.{◌≡◌, ℕ, ℤ, pos, List, Any, length, replicate, get_or, Some, slice_get, slice_set}
use Rattle.whole_algebra.specs.Matrices.{at}
use Rattle.geo_model.specs.Cover.{CoverOf}
use Rattle.geo_model.specs.Limit.{LimitOf}
use Rattle.geo_model.specs.Network.{NetworkOf}
use Rattle.geo_model.specs.Row.{unit_at}
use Rattle.cut_pool.specs.Cut.{CutOf, cover, cover_of}
use Rattle.idle_splits.specs.Idle.{IsLoadedAt}
use Rattle.idle_splits.specs.declared.unit_cuts.UnitCuts.{UnitCuts}

-- The cuts of a network's axis and height limits and the displacements by 1 in one unknown that
-- load them. This project's own.

-- the displacement by 1 in one unknown of so many
abbrev pub unit_move : ℕ → ℕ → List ℤ
unit_move count unknown = slice_set (replicate count (pos 0)) unknown (pos 1)

-- a cut is the one of its limit and of the displacement by 1 in this unknown, which loads the limit
pub record IsUnitCut (network : NetworkOf) (unknown : ℕ) (cut : CutOf) : Type 0 where
  pub limit : LimitOf
  pub loaded : IsLoadedAt network cut.limit unknown limit
  pub moved : cut.x ≡ unit_move (length network.unknowns) unknown
  pub covers : cover cut ≡ cover_of network limit (at cut.x)

-- a pool has a cut with this covering inequality
abbrev pub HasCover : List CutOf → CoverOf → Type 0
HasCover pool wanted = Any (λ cut. cover cut ≡ wanted) pool

-- a pool has the cut of a limit and of the displacement by 1 in an unknown, where that loads the
-- limit
abbrev pub HasUnitCut : NetworkOf → List CutOf → ℕ → ℕ → Type 0
HasUnitCut network pool number unknown =
    (limit : LimitOf) → IsLoadedAt network number unknown limit → HasCover pool (cover_of network limit (unit_at unknown))

-- each cut that is kept is a unit cut, with its unknown
pub record KeepsUnitCuts (network : NetworkOf) (cuts : UnitCuts) : Type 0 where
  pub long : length cuts.unknowns.items ≡ length cuts.pool
  pub each : (k : ℕ) (cut : CutOf) → slice_get cuts.pool k ≡ Some cut → IsUnitCut network (get_or cuts.unknowns.items k 0) cut

-- what is kept grew
pub record Grows (network : NetworkOf) (before now : UnitCuts) : Type 0 where
  pub kept : KeepsUnitCuts network now
  pub still : (wanted : CoverOf) → HasCover before.pool wanted → HasCover now.pool wanted

-- the unit cuts of a network: each that is kept is one, and each is there
pub record AreUnitCuts (network : NetworkOf) (cuts : UnitCuts) : Type 0 where
  pub kept : KeepsUnitCuts network cuts
  pub whole : (number unknown : ℕ) → HasUnitCut network cuts.pool number unknown
