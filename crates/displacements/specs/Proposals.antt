-- What is proposed as a displacement that breaks a limit. This project's own.
use Rattle.std.specs.Prelude.{◌≡◌, ℕ, ◌<◌, ℤ, List, length, Bool, Some, slice_get}
use Rattle.whole_algebra.specs.Matrices.{at}
use Rattle.geo_model.specs.Row.{unit_at}
use Rattle.geo_model.specs.Limit.{LimitOf}
use Rattle.geo_model.specs.Network.{NetworkOf}
use Rattle.geo_model.specs.Meeting.{Breaks}

-- a displacement of a network's unknowns breaks the limit of this number under a plan
pub record BreaksLimit (network : NetworkOf) (plan : List Bool) (limit : ℕ) (x : List ℤ) : Type 0 where
  pub places : length x ≡ length network.unknowns
  pub breaks : (l : LimitOf) → slice_get network.limits limit ≡ Some l → Breaks network plan l (at x)

-- no displacement by 1 in one unknown breaks the limit of this number under a plan
abbrev pub NoUnitBreaks : NetworkOf → List Bool → ℕ → Type 0
NoUnitBreaks network plan limit =
    (l : LimitOf) (i : ℕ) → slice_get network.limits limit ≡ Some l → i < length network.unknowns →
    Breaks network plan l (unit_at i) → ⊥
