-- How the shares of a dual bound are taken off the prices. This project's own; it serves private
-- functions and the proof of the replay, and no public clause cites it.
use Rattle.std.specs.Prelude.{◌≡◌, ℕ, ◌^◌, ◌<◌, ◌≤◌, ◌&&◌, ltb, ℤ, Bool, true, List, All, ◌++◌, length, map, slice_get}
use Rattle.geo_model.specs.Network.{NetworkOf}
use Rattle.geo_model.specs.Prices.{prices_of}
use Rattle.bound_log.specs.CutText.{CutTextOf}
use Rattle.bound_log.specs.DualText.{weighed_text}
use Rattle.geo_model.specs.declared.plan.Node.{Node}
use Rattle.reduced_sums.specs.Weighed.{AreWeighed}
use Rattle.bound_log.specs.Rules.{chooses_if_any, is_displacement, is_weight, limit_passes}

-- the numbers of a share are in their ranges
abbrev pub is_share_in_range : NetworkOf → ℕ × CutTextOf → Bool
is_share_in_range network share =
    is_weight share.0 && (ltb share.1.limit (length network.limits) && is_displacement (length network.unknowns) share.1.pairs)

-- the limit of a number is in force for the inner plan of a node: it has no owner, or the plan
-- chooses its owner
abbrev pub is_owned_at : NetworkOf → Node → ℕ → Bool
is_owned_at network node number = limit_passes (λ limit. chooses_if_any node.inside limit.owner) (slice_get network.limits number)

-- a share whose numbers are in their ranges
pub record IsShareOf (network : NetworkOf) (share : ℕ × CutTextOf) : Type 0 where
  pub small : share.0 ≤ 2 ^ 44
  pub within : share.1.limit < length network.limits
  pub displacement : is_displacement (length network.unknowns) share.1.pairs ≡ true

-- of the shares these are left; those before them were taken off the prices, and this is what they
-- paid
pub record Weighs (network : NetworkOf) (divisor : ℕ) (shares left : List (ℕ × CutTextOf)) (reduced : List ℤ) (paid : ℕ) : Type 0 where
  pub done : List (ℕ × CutTextOf)
  pub whole : shares ≡ done ++ left
  pub each : All (IsShareOf network) left
  pub weighed : AreWeighed (prices_of network) divisor (map (weighed_text network) done) reduced paid
