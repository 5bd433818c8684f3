use Rattle.std.specs.Prelude.{ℕ, List}
use Rattle.geo_model.specs.Network.{NetworkOf}
use Rattle.point_tables.specs.declared.record.PointRecord.{PointRecord}
use Rattle.candidate_tables.specs.declared.record.CandidateRecord.{CandidateRecord}

-- what two accepted tables give: the points and the candidates in their order, the redundancy that is asked for, in
-- thousandths, and the network of both
pub record TablesOf : Type 0 where
  pub points : List PointRecord
  pub candidates : List CandidateRecord
  pub redundancy : ℕ
  pub network : NetworkOf

-- a table that is refused: its word, the number of a record, and the word of what is wrong with it
pub record RefusedOf : Type 0 where
  pub table : List ℕ
  pub number : ℕ
  pub kind : List ℕ
