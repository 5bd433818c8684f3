-- What holds of the network of every accepted pair of tables. This project's own.
use Rattle.std.specs.Prelude.{ℕ, ◌≡◌, ◌≤◌, List, length, All, None}
use Rattle.geo_model.specs.Network.{IsNetwork}
use Rattle.point_tables.specs.declared.record.PointRecord.{PointRecord}
use Rattle.point_tables.specs.Accepted.{IsAccepted}
use Rattle.candidate_tables.specs.declared.record.CandidateRecord.{CandidateRecord}
use Rattle.candidate_tables.specs.Accepted.{AreCandidates}
use Rattle.net_build.specs.Build.{network_fault, network_of}

-- the points and the candidates are those of accepted tables, their network is not too large, and q is in its range
pub record AreTables (points : List PointRecord) (candidates : List CandidateRecord) (q : ℕ) : Type 0 where
  pub accepted : All IsAccepted points
  pub against : AreCandidates points candidates
  pub small : network_fault points candidates ≡ None
  pub redundancy : q ≤ 999

-- such tables give a network within the bounds of networks, with at most 576 limits
abbrev pub BuiltNetworksAreNetworks : Type 0
BuiltNetworksAreNetworks =
    (points : List PointRecord) (candidates : List CandidateRecord) (q : ℕ) → AreTables points candidates q →
    IsNetwork (network_of points candidates q) × (length (network_of points candidates q).limits ≤ 576)
