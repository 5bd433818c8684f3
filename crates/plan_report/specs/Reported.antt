-- What is reported, and of which network. This project's own.
use Rattle.std.specs.Prelude.{◌≡◌, ℕ, ◌+◌, ◌<◌, List, ◌++◌, All, length, Some, slice_get}
use Rattle.geo_model.specs.Limit.{LimitOf}
use Rattle.geo_model.specs.Network.{NetworkOf}
use Rattle.geo_model.specs.declared.limit.LimitKind.TheVariants as limit
use Rattle.geo_model.specs.declared.answer.Answer.{Answer}
use Rattle.geo_model.specs.declared.answer.Answer.TheVariants as answer
use Rattle.geo_model.specs.declared.answer.Counts.{Counts}
use Rattle.point_tables.specs.declared.record.PointRecord.{PointRecord}
use Rattle.point_tables.specs.PointTable as point
use Rattle.candidate_tables.specs.declared.record.CandidateRecord.{CandidateRecord}
use Rattle.candidate_tables.specs.CandidateTable as candidate
use Rattle.net_build.specs.Bounds.{AreTables}
use Rattle.net_build.specs.Build.{network_of}
use Rattle.plan_report.specs.declared.reported.Reported.{Reported}
use Rattle.limit_lines.specs.LimitText.{limit_text}
use Rattle.plan_report.specs.ReportText.{plan_text, no_plan_text, undecided_text, open_text}

-- a limit that was added behind those of the tables
abbrev pub IsAdded : LimitOf → Type 0
IsAdded given = (number : ℕ) × (given.kind ≡ limit.Added number)

-- the network has the unknowns and the candidates of two accepted tables, and their limits, with a redundancy limit of q
-- thousandths, followed by any number of added ones
pub record IsNetworkFor (points : List PointRecord) (candidates : List CandidateRecord) (q : ℕ) (network : NetworkOf) : Type 0 where
  pub tables : AreTables points candidates q
  pub unknowns : network.unknowns ≡ (network_of points candidates q).unknowns
  pub offered : network.candidates ≡ (network_of points candidates q).candidates
  pub added : List LimitOf
  pub limits : network.limits ≡ (network_of points candidates q).limits ++ added
  pub each_added : All IsAdded added

-- an answer for such a network: a plan has an entry for each candidate, and an open limit is one of the network's
abbrev pub IsAnswerFor : NetworkOf → Answer → Type 0
IsAnswerFor network (answer.Best plan) = length plan ≡ length network.candidates
IsAnswerFor network answer.NoPlan = Unit {0}
IsAnswerFor network (answer.Undecided plan number step lo hi) = (length plan ≡ length network.candidates) × (number < length network.limits)

-- the report of an answer, with the counts of the lines of its log
abbrev pub IsReport : List PointRecord → List CandidateRecord → ℕ → NetworkOf → Counts → Answer → List ℕ → Type 0
IsReport points candidates q network counts (answer.Best plan) text = text ≡ plan_text points (candidate.candidate_names candidates) q network plan counts
IsReport points candidates q network counts answer.NoPlan text = text ≡ no_plan_text counts
IsReport points candidates q network counts (answer.Undecided plan number step lo hi) text =
    (given : LimitOf) → slice_get network.limits number ≡ Some given →
    text ≡ undecided_text (candidate.candidate_names candidates) network plan
    (open_text (limit_text (point.point_names points) (candidate.candidate_names candidates) given.kind) step lo hi) counts

-- ---- a plan that is reported; what follows is cited by private clauses alone

pub record IsReported (reported : Reported) : Type 0 where
  pub network : IsNetworkFor reported.points.now reported.candidates.now reported.q reported.network.now
  pub long : length reported.plan.now ≡ length reported.network.now.candidates

-- from this number on these limits stand
abbrev pub StandFrom : List LimitOf → ℕ → List LimitOf → Type 0
StandFrom limits number part = (j : ℕ) (given : LimitOf) → slice_get part j ≡ Some given → slice_get limits (number + j) ≡ Some given
