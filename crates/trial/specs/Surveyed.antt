-- What two tables and their network give to the texts of a session. This project's own.
use Rattle.std.specs.Prelude.{List}
use Rattle.geo_model.specs.Network.{NetworkOf}
use Rattle.point_tables.specs.PointTable as point
use Rattle.point_tables.specs.declared.record.PointRecord.{PointRecord}
use Rattle.candidate_tables.specs.CandidateTable as candidate
use Rattle.candidate_tables.specs.declared.record.CandidateRecord.{CandidateRecord}
use Rattle.trial.specs.declared.survey.Survey.{Survey}
use Rattle.trial.specs.TrialText.{SurveyOf}

abbrev pub survey_from : List PointRecord → List CandidateRecord → NetworkOf → SurveyOf
survey_from points candidates network = record {
  points = point.point_names points;
  candidates = candidate.candidate_names candidates;
  network = network;
}

abbrev pub survey_of : Survey → SurveyOf
survey_of survey = survey_from survey.points.now survey.candidates.now survey.network.now
