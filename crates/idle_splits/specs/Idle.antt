use Rattle.std.specs.Prelude.{◌≡◌, ℕ, ◌<◌, ◌≤◌, pos, ◌<ℤ◌, true, [], ◌∷◌, length, get_or, Some, None, slice_get}
use Rattle.geo_model.specs.Cover.{CoverOf}
use Rattle.geo_model.specs.Dual.{dual_bound}
use Rattle.geo_model.specs.Limit.{LimitOf, is_point_limit, load}
use Rattle.geo_model.specs.Network.{NetworkOf}
use Rattle.geo_model.specs.Prices.{price_of, prices_of}
use Rattle.geo_model.specs.Row.{unit_at}
use Rattle.geo_model.specs.declared.plan.Node.{Node}
use Rattle.geo_model.specs.declared.verdict.Verdict.TheVariants.{Refuted}
use Rattle.cut_pool.specs.Cut.{cover_of}
use Rattle.pivot_chain.specs.Verdict.{verdict_of}
use Rattle.bound_log.specs.declared.bound.Bound.{Bound}
use Rattle.bound_log.specs.declared.bound.Bound.TheVariants.{NoPlan, AtLeast}

-- Idle splits: splits of nodes that a verdict, a price or a dual bound of one cut makes needless,
-- where earlier lines of the log have a bound. This project's own.

-- a price is above a bound
abbrev pub IsAbove : ℕ → Bound → Type 0
IsAbove price NoPlan = ⊥
IsAbove price (AtLeast earlier) = earlier < price

-- a limit without an owner refutes a node
pub record IsRefutedUnowned (network : NetworkOf) (node : Node) (number : ℕ) : Type 0 where
  pub limit : LimitOf
  pub named : slice_get network.limits number ≡ Some limit
  pub unowned : limit.owner ≡ None
  pub refuted : verdict_of network node.upper limit ≡ Refuted

-- ---- unit cuts

-- an axis or height limit that a displacement by 1 in one unknown loads
pub record IsLoadedAt (network : NetworkOf) (number unknown : ℕ) (limit : LimitOf) : Type 0 where
  pub named : slice_get network.limits number ≡ Some limit
  pub of_point : is_point_limit limit.kind ≡ true
  pub inside : unknown < length network.unknowns
  pub loaded : pos 0 <ℤ load limit.squares (unit_at unknown)

-- the price of a candidate, and its coefficient in a covering inequality
abbrev pub price_at : NetworkOf → ℕ → ℕ
price_at network candidate = get_or (prices_of network).candidates candidate 0

abbrev pub cover_coefficient : CoverOf → ℕ → ℕ
cover_coefficient cover candidate = get_or cover.coefficients candidate 0

-- the dual bound of a node by one covering inequality: a candidate's coefficient is the divisor,
-- its price the multiplier
abbrev pub bound_by : NetworkOf → Node → CoverOf → ℕ → ℕ
bound_by network node cover candidate =
    dual_bound (prices_of network) (cover_coefficient cover candidate) (record { multiplier = price_at network candidate; cover = cover } ∷ []) node

-- by a covering inequality, at the price of a candidate that a node may choose, the node costs more
-- than a bound
pub record IsDearBy (network : NetworkOf) (node : Node) (earlier : Bound) (cover : CoverOf) (candidate : ℕ) : Type 0 where
  pub chosen : slice_get node.upper candidate ≡ Some true
  pub priced : 1 ≤ price_at network candidate
  pub weighs : 1 ≤ cover_coefficient cover candidate
  pub above : IsAbove (bound_by network node cover candidate) earlier

-- .. by the cut of a limit and a displacement by 1 in one unknown
pub record IsDearByUnit (network : NetworkOf) (node : Node) (earlier : Bound) (number unknown candidate : ℕ) : Type 0 where
  pub limit : LimitOf
  pub loaded : IsLoadedAt network number unknown limit
  pub dear : IsDearBy network node earlier (cover_of network limit (unit_at unknown)) candidate

-- ---- idle

-- A split at a node is idle beside an earlier bound: a limit without an owner refutes the node, or
-- the price of its inner plan is above the bound, or the dual bound of the node by one unit cut is.
pub data IsIdle (network : NetworkOf) (node : Node) (earlier : Bound) : Type 0 where
  refuted : (number : ℕ) → IsRefutedUnowned network node number → IsIdle network node earlier
  dear : IsAbove (price_of network node.inside) earlier → IsIdle network node earlier
  dear_by_unit : (number unknown candidate : ℕ) → IsDearByUnit network node earlier number unknown candidate → IsIdle network node earlier

-- a bound is no more than another one
abbrev pub IsNoMore : Bound → Bound → Type 0
IsNoMore lower NoPlan = Unit {0}
IsNoMore NoPlan (AtLeast b) = ⊥
IsNoMore (AtLeast a) (AtLeast b) = a ≤ b

-- what is idle beside a bound is idle beside a lower one
abbrev pub IdlenessFalls : Type 0
IdlenessFalls =
    (network : NetworkOf) (node : Node) (lower higher : Bound) → IsNoMore lower higher → IsIdle network node higher → IsIdle network node lower
