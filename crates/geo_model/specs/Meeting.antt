use Rattle.std.specs.Prelude.{◌*ℤ◌, ◌≤ℤ◌, ◌<ℤ◌, List, All, Bool}
use Rattle.geo_model.specs.Row.{Displaced}
use Rattle.geo_model.specs.Energy.{energy, IsWithin}
use Rattle.geo_model.specs.Limit.{LimitOf, load, IsInForce}
use Rattle.geo_model.specs.Network.{NetworkOf, IsNetwork, IsLimit}

-- Which limits a plan meets. This project's own form of the usual limits on standard ellipses, heights and redundancy
-- numbers: an inequality of quadratic forms over all displacements.

-- a plan meets a limit: the inequality holds at every displacement
abbrev pub MeetsLimit : NetworkOf → List Bool → LimitOf → Type 0
MeetsLimit network plan limit =
    (x : Displaced) → load limit.squares x ≤ℤ (limit.alpha *ℤ energy network.candidates plan x)

-- a plan meets the limits: it meets each limit in force
abbrev pub MeetsLimits : NetworkOf → List Bool → Type 0
MeetsLimits network plan = All (λ limit. IsInForce limit plan → MeetsLimit network plan limit) network.limits

-- a displacement breaks a limit under a plan: the inequality fails there
abbrev pub Breaks : NetworkOf → List Bool → LimitOf → Displaced → Type 0
Breaks network plan limit x = (limit.alpha *ℤ energy network.candidates plan x) <ℤ load limit.squares x

-- a limit that a plan meets is met by every larger plan
abbrev pub LargerPlansKeepLimits : Type 0
LargerPlansKeepLimits =
    (network : NetworkOf) (limit : LimitOf) (small large : List Bool) → IsNetwork network → IsLimit network limit →
    IsWithin small large → MeetsLimit network small limit → MeetsLimit network large limit
