use Rattle.std.specs.Prelude.{◌≡◌, ℕ, ◌<◌, ◌≤◌, ◌^◌, get_or, Some, slice_get}
use Rattle.geo_model.specs.Limit.{LimitOf}
use Rattle.geo_model.specs.Network.{NetworkOf}
use Rattle.geo_model.specs.Row.{unit_at}
use Rattle.geo_model.specs.declared.plan.Node.{Node}
use Rattle.cut_pool.specs.Cut.{CutOf, cover, cover_of}
use Rattle.bound_log.specs.declared.bound.Bound.{Bound}
use Rattle.idle_splits.specs.Idle.{IsLoadedAt, IsDearBy, cover_coefficient, price_at}
use Rattle.idle_splits.specs.declared.unit_cuts.UnitCuts.{UnitCuts}
use Rattle.idle_splits.specs.declared.unit_share.UnitShare.{UnitShare}

-- What shows that a node costs more than an earlier bound: one cut, its multiplier, and a divisor.
-- This project's own.

-- the dual bound of the node by this one share is above the bound
pub record ShowsDear (network : NetworkOf) (node : Node) (earlier : Bound) (share : UnitShare) : Type 0 where
  pub limit : LimitOf
  pub loaded : IsLoadedAt network share.limit share.unknown limit
  pub dear : IsDearBy network node earlier (cover_of network limit (unit_at share.unknown)) share.candidate
  pub divisor : share.d ≡ cover_coefficient (cover_of network limit (unit_at share.unknown)) share.candidate
  pub multiplier : share.y ≡ price_at network share.candidate
  pub small_divisor : share.d < 2 ^ 24
  pub small_multiplier : share.y ≤ 1000000000

-- a share is of a kept cut, by its number, at the price of its candidate: for private functions
pub record IsUnitShareOf (network : NetworkOf) (cuts : UnitCuts) (k : ℕ) (share : UnitShare) : Type 0 where
  pub cut : CutOf
  pub kept : slice_get cuts.pool k ≡ Some cut
  pub limit : share.limit ≡ cut.limit
  pub unknown : share.unknown ≡ get_or cuts.unknowns.items k 0
  pub divisor : share.d ≡ cover_coefficient (cover cut) share.candidate
  pub multiplier : share.y ≡ price_at network share.candidate
  pub small_divisor : share.d < 2 ^ 24
  pub small_multiplier : share.y ≤ 1000000000

-- by a kept cut, at the price of a candidate, a node costs more than a bound: for private functions
abbrev pub IsDearByKept : NetworkOf → Node → Bound → UnitCuts → ℕ → ℕ → Type 0
IsDearByKept network node earlier cuts k candidate =
    (cut : CutOf) × (slice_get cuts.pool k ≡ Some cut) × IsDearBy network node earlier (cover cut) candidate
