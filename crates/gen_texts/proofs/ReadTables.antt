-- Both tables of a seed are read back.
use Rattle.gen_texts.specs.ReadBack.{GeneratedTablesAreReadBack}
use Rattle.gen_texts.proofs.CandidateTexts.{candidates-kept, candidates-read}
use Rattle.gen_texts.proofs.PointTexts.{points-kept, points-read}

pub tables-read : GeneratedTablesAreReadBack
tables-read seed = record {
  points_accepted = points-kept seed;
  points_read = points-read seed;
  candidates_accepted = candidates-kept seed;
  candidates_read = candidates-read seed;
}
