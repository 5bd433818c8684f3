-- What the tables of a seed are read as. This project's own.
use Rattle.std.specs.Prelude.{ℕ, ◌≡◌, None}
use Rattle.point_tables.specs.PointTable.{points_fault, points_of}
use Rattle.candidate_tables.specs.CandidateTable.{candidates_fault, candidates_of}
use Rattle.gen_net.specs.Points.{points_text}
use Rattle.gen_net.specs.Candidates.{candidates_text}
use Rattle.gen_records.specs.Records.{candidate_records, point_records}

-- neither table of the seed has a fault, and they stand for the records of the seed
pub record AreReadBack (seed : ℕ) : Type 0 where
  pub points_accepted : points_fault (points_text seed) ≡ None
  pub points_read : points_of (points_text seed) ≡ point_records seed
  pub candidates_accepted : candidates_fault (point_records seed) (candidates_text seed) ≡ None
  pub candidates_read : candidates_of (point_records seed) (candidates_text seed) ≡ candidate_records seed

-- the tables of each seed are
abbrev pub GeneratedTablesAreReadBack : Type 0
GeneratedTablesAreReadBack = (seed : ℕ) → AreReadBack seed
