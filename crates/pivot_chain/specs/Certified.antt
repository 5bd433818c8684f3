use Rattle.std.specs.Prelude.{◌≡◌, ℕ, Bool, List, length, Some, slice_get}
use Rattle.geo_model.specs.Limit.{LimitOf, IsInForce}
use Rattle.geo_model.specs.Network.{NetworkOf}
use Rattle.geo_model.specs.Verdicts.{IsCertifiedBy}
use Rattle.geo_model.specs.declared.verdict.Verdict.TheVariants.{Met}
use Rattle.pivot_chain.specs.Verdict.{verdict_of}

-- Certified plans. This project's own.

-- a plan of the network that is certified: each limit in force is met
pub record IsCertified (network : NetworkOf) (plan : List Bool) : Type 0 where
  pub long : length plan ≡ length network.candidates
  pub certified : IsCertifiedBy (verdict_of network) network plan

-- the limit of a number is met, or not in force for the plan
abbrev pub IsMetAt : NetworkOf → List Bool → ℕ → Type 0
IsMetAt network plan number =
    (limit : LimitOf) → slice_get network.limits number ≡ Some limit → IsInForce limit plan → verdict_of network plan limit ≡ Met
