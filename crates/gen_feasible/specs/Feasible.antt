-- The networks of generated tables: how large they are, and that the plan of all candidates meets their limits. This
-- project's own.
use Rattle.std.specs.Prelude.{ℕ, ◌≡◌, List, None, true, length, replicate, sum_by}
use Rattle.geo_model.specs.Network.{NetworkOf}
use Rattle.geo_model.specs.Meeting.{MeetsLimits}
use Rattle.point_tables.specs.PointTable.{points_fault, points_of}
use Rattle.candidate_tables.specs.CandidateTable.{candidates_fault, candidates_of}
use Rattle.net_build.specs.Build.{network_fault, network_of}
use Rattle.gen_net.specs.Points.{points_text}
use Rattle.gen_net.specs.Candidates.{candidates_text}
use Rattle.gen_records.specs.Records.{candidate_records, point_records}

-- the network of a seed, with a redundancy limit of 200 thousandths
abbrev pub generated_network : ℕ → NetworkOf
generated_network seed = network_of (point_records seed) (candidate_records seed) 200

-- 17 unknowns, 28 candidates with 48 rows, and 58 limits
pub record IsGeneratedSize (network : NetworkOf) : Type 0 where
  pub unknowns : length network.unknowns ≡ 17
  pub candidates : length network.candidates ≡ 28
  pub rows : sum_by (λ candidate. length candidate.rows) network.candidates ≡ 48
  pub limits : length network.limits ≡ 58

-- each generated network is of this size
abbrev pub GeneratedNetworksAreOfOneSize : Type 0
GeneratedNetworksAreOfOneSize = (seed : ℕ) → IsGeneratedSize (generated_network seed)

-- the plan of all candidates meets the limits of each generated network
abbrev pub GeneratedNetworksAreFeasible : Type 0
GeneratedNetworksAreFeasible = (seed : ℕ) → MeetsLimits (generated_network seed) (replicate 28 true)

-- the network of two tables with a redundancy limit of 200 thousandths
abbrev pub network_of_texts : List ℕ → List ℕ → NetworkOf
network_of_texts points candidates = network_of (points_of points) (candidates_of (points_of points) candidates) 200

-- two tables and their network have no fault, the network is of this size, and the plan of all candidates meets its limits
pub record AreFeasible (points candidates : List ℕ) : Type 0 where
  pub points_accepted : points_fault points ≡ None
  pub candidates_accepted : candidates_fault (points_of points) candidates ≡ None
  pub network_accepted : network_fault (points_of points) (candidates_of (points_of points) candidates) ≡ None
  pub size : IsGeneratedSize (network_of_texts points candidates)
  pub met : MeetsLimits (network_of_texts points candidates) (replicate 28 true)

-- the tables of each seed are feasible
abbrev pub GeneratedTablesAreFeasible : Type 0
GeneratedTablesAreFeasible = (seed : ℕ) → AreFeasible (points_text seed) (candidates_text seed)
