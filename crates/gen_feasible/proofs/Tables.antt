-- The generated tables of a seed are feasible: what holds of the records holds of the texts that are read back as them.
use Rattle.std.proofs.Common.{◌≡◌, ℕ, true, List, None, replicate, sym, subst}
use Rattle.geo_model.specs.Meeting.{MeetsLimits}
use Rattle.point_tables.specs.declared.record.PointRecord.{PointRecord}
use Rattle.point_tables.specs.PointTable.{points_of}
use Rattle.candidate_tables.specs.declared.record.CandidateRecord.{CandidateRecord}
use Rattle.candidate_tables.specs.CandidateTable.{candidates_fault, candidates_of}
use Rattle.net_build.specs.Build.{network_fault, network_of}
use Rattle.gen_net.specs.Points.{points_text}
use Rattle.gen_net.specs.Candidates.{candidates_text}
use Rattle.gen_records.specs.Records.{candidate_records, point_records}
use Rattle.gen_texts.proofs.ReadTables.{tables-read}
use Rattle.gen_feasible.specs.Feasible.{GeneratedTablesAreFeasible, IsGeneratedSize}
use Rattle.gen_feasible.proofs.Generated.{generated-accepted, generated-feasible, generated-sizes}

-- what holds of points and candidates, where both are read from texts
record IsGood (points : List PointRecord) (candidates : List CandidateRecord) : Type 0 where
  pub accepted : network_fault points candidates ≡ None
  pub size : IsGeneratedSize (network_of points candidates 200)
  pub met : MeetsLimits (network_of points candidates 200) (replicate 28 true)

records-good : (seed : ℕ) → IsGood (point_records seed) (candidate_records seed)
records-good seed = record { accepted = generated-accepted seed; size = generated-sizes seed; met = generated-feasible seed }

-- the points that are read are the seed's, and so are the candidates against them
record AreRead (points : List PointRecord) (candidates : List PointRecord → List CandidateRecord) (text : List ℕ) : Type 0 where
  pub kept : candidates_fault points text ≡ None
  pub good : IsGood points (candidates points)

read-records : (seed : ℕ) → AreRead (point_records seed) (λ points. candidates_of points (candidates_text seed)) (candidates_text seed)
read-records seed =
    let is = tables-read seed in
    record { kept = is.candidates_accepted; good = subst (IsGood (point_records seed)) (sym is.candidates_read) (records-good seed) }

read-texts : (seed : ℕ) → AreRead (points_of (points_text seed)) (λ points. candidates_of points (candidates_text seed)) (candidates_text seed)
read-texts seed =
    subst (λ (points : List PointRecord). AreRead points (λ (given : List PointRecord). candidates_of given (candidates_text seed)) (candidates_text seed))
    (sym (tables-read seed).points_read) (read-records seed)

pub tables-feasible : GeneratedTablesAreFeasible
tables-feasible seed =
    let is = read-texts seed in
    record {
      points_accepted = (tables-read seed).points_accepted;
      candidates_accepted = is.kept;
      network_accepted = is.good.accepted;
      size = is.good.size;
      met = is.good.met;
    }
