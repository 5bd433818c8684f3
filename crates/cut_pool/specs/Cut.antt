-- Cuts: what a displacement asks of each plan that meets a limit, as a covering inequality over the candidates, divided by
-- a power of two so that all its numbers are below 2 ^ 24. This project's own.
use Rattle.std.specs.Prelude.{◌≡◌, ℕ, zero, suc, ◌+◌, ◌-◌, ◌/◌, ◌^◌, ◌<◌, ◌≤◌, nat_lt, min, map, ℤ, ◌*ℤ◌, unsigned_abs, if◌then◌else◌, Bool, List, Some, slice_get}
use Rattle.whole_algebra.specs.Matrices.{at}
use Rattle.geo_model.specs.Row.{Displaced}
use Rattle.geo_model.specs.Candidate.{CandidateOf, candidate_energy}
use Rattle.geo_model.specs.Limit.{LimitOf, load}
use Rattle.geo_model.specs.Network.{NetworkOf, IsNetwork, IsLimit}
use Rattle.geo_model.specs.Meeting.{MeetsLimit}
use Rattle.geo_model.specs.Cover.{CoverOf, Satisfies}

-- t is the least number with n / 2 ^ t, rounded down, below 2 ^ 24
pub record IsShift (n t : ℕ) : Type 0 where
  pub reached : n / 2 ^ t < 2 ^ 24
  pub least : (s : ℕ) → s < t → 2 ^ 24 ≤ n / 2 ^ s

-- the least such number from `from` on, of so many
abbrev pub first_shift : ℕ → ℕ → ℕ → ℕ
first_shift zero from n = from
first_shift (suc many) from n = if nat_lt (n / 2 ^ from) (2 ^ 24) then from else first_shift many (suc from) n

-- the least such number of all, for n below 2 ^ 120
unfoldable pub cut_shift : ℕ → ℕ
cut_shift n = first_shift 128 0 n

-- what the load of a limit is at a displacement: it is never negative
abbrev pub load_number : LimitOf → Displaced → ℕ
load_number limit x = unsigned_abs (load limit.squares x)

-- what a candidate gives to the other side of a limit's inequality: the factor times its energy, never negative
abbrev pub energy_number : LimitOf → Displaced → CandidateOf → ℕ
energy_number limit x candidate = unsigned_abs (limit.alpha *ℤ candidate_energy candidate x)

-- n / d, rounded up, for d above 0
abbrev pub rounded_up : ℕ → ℕ → ℕ
rounded_up n d = (n + (d - 1)) / d

-- the divisor of the cut of a limit and a displacement
abbrev pub divisor_of : LimitOf → Displaced → ℕ
divisor_of limit x = 2 ^ cut_shift (load_number limit x)

-- the bound of the cut: the load over the divisor, rounded down
abbrev pub bound_of : LimitOf → Displaced → ℕ
bound_of limit x = load_number limit x / divisor_of limit x

-- the coefficient of a candidate: its part over the divisor, rounded up, and no more than the bound
abbrev pub coefficient_of : LimitOf → Displaced → CandidateOf → ℕ
coefficient_of limit x candidate = min (bound_of limit x) (rounded_up (energy_number limit x candidate) (divisor_of limit x))

-- the covering inequality of a limit and a displacement
abbrev pub cover_of : NetworkOf → LimitOf → Displaced → CoverOf
cover_of network limit x = record { coefficients = map (coefficient_of limit x) network.candidates; bound = bound_of limit x }

-- a cut: the number of its limit, its displacement, and its covering inequality
pub record CutOf : Type 0 where
  pub limit : ℕ
  pub x : List ℤ
  pub coefficients : List ℕ
  pub bound : ℕ

-- the covering inequality of a cut
abbrev pub cover : CutOf → CoverOf
cover cut = record { coefficients = cut.coefficients; bound = cut.bound }

-- a cut is the one of this limit and displacement
pub record IsCutOf (network : NetworkOf) (limit : ℕ) (x : List ℤ) (cut : CutOf) : Type 0 where
  pub named : cut.limit ≡ limit
  pub moved : cut.x ≡ x
  pub covers : (l : LimitOf) → slice_get network.limits limit ≡ Some l → cover cut ≡ cover_of network l (at x)

-- each plan that meets a limit satisfies the cut of the limit and any displacement
abbrev pub MeetingPlansSatisfyCuts : Type 0
MeetingPlansSatisfyCuts =
    (network : NetworkOf) (limit : LimitOf) (plan : List Bool) (x : Displaced) → IsNetwork network → IsLimit network limit →
    MeetsLimit network plan limit → Satisfies (cover_of network limit x) plan
