-- What is printed: for each plan its verdict on each limit, a line each. This project's own.
use Rattle.std.specs.Prelude.{◌≡◌, ℕ, IsFalse, None, Some, ◌==◌, ◌&&◌, ◌||◌, Bool, List, Option, ◌++◌, length, map, flat_map, codes, pos}
use Rattle.std.specs.List.{list_all}
use Rattle.lent_parts.specs.Pieces.{TextLineOf, lines_of}
use Rattle.text_num.specs.Whole.{whole_text}
use Rattle.point_tables.specs.PointTable.{points_fault, points_of}
use Rattle.point_tables.specs.declared.fault.FaultKind.{FaultKind}
use Rattle.point_tables.specs.declared.fault.TableName.TheVariants as table
use Rattle.point_tables.specs.declared.fault.TableAnswer.{TableAnswer}
use Rattle.point_tables.specs.declared.fault.TableAnswer.TheVariants as answer
use Rattle.candidate_tables.specs.CandidateTable.{candidates_fault, candidates_of}
use Rattle.geo_model.specs.Limit.{LimitOf}
use Rattle.geo_model.specs.Network.{NetworkOf}
use Rattle.geo_model.specs.declared.verdict.Verdict.{Verdict}
use Rattle.geo_model.specs.declared.verdict.Verdict.TheVariants.{Met, Refuted, Open}
use Rattle.net_build.specs.Build.{network_fault, network_of}
use Rattle.pivot_chain.specs.Verdict.{verdict_of}
use Rattle.verdict_cli.specs.Request.{RequestOf, request_of}
use Rattle.verdict_cli.specs.declared.refusal.InputRefusal.{InputRefusal}
use Rattle.verdict_cli.specs.declared.refusal.InputRefusal.TheVariants as refused

-- why a table that was not read refuses the whole
abbrev pub refusal_of : TableAnswer → InputRefusal
refusal_of (answer.Fault fault) = refused.Table fault.table
refusal_of answer.NoMemory = refused.NoMemory

-- ---- plans

-- 49 is the digit 1
abbrev pub is_one : ℕ → Bool
is_one c = c == 49

-- 48 is the digit 0
abbrev pub is_plan_digit : ℕ → Bool
is_plan_digit c = (c == 48) || (c == 49)

-- a digit 0 or 1 for each of m candidates
abbrev pub is_plan : ℕ → List ℕ → Bool
is_plan m line = (length line == m) && list_all is_plan_digit line

-- a candidate is chosen where its digit is 1
abbrev pub plan_of : List ℕ → List Bool
plan_of line = map is_one line

-- ---- verdicts

unfoldable pub verdict_line : Verdict → List ℕ
verdict_line Met = codes "met\n"
verdict_line Refuted = codes "refuted\n"
verdict_line (Open step lo hi) =
    codes "open," ++ (whole_text (pos step) ++ (codes "," ++ (whole_text lo ++ (codes "," ++ (whole_text hi ++ codes "\n")))))

-- the verdicts of a plan on all limits
abbrev pub verdict_lines : NetworkOf → List Bool → List ℕ
verdict_lines network plan = flat_map (λ (limit : LimitOf). verdict_line (verdict_of network plan limit)) network.limits

-- the verdicts of these plans
abbrev pub lines_for : NetworkOf → List TextLineOf → List ℕ
lines_for network plans = flat_map (λ (line : TextLineOf). verdict_lines network (plan_of line.text)) plans

-- the verdicts of the plans of a text
abbrev pub plans_lines : NetworkOf → List ℕ → List ℕ
plans_lines network plans = lines_for network (lines_of plans)

-- the network of the tables of a request
abbrev pub network_for : RequestOf → NetworkOf
network_for request = network_of (points_of request.points) (candidates_of (points_of request.points) request.candidates) request.redundancy

-- all that is printed for a request
abbrev pub request_lines : RequestOf → List ℕ
request_lines request = plans_lines (network_for request) request.plans

-- the input has the parts of a request, of which this holds
abbrev pub HasRequest : List ℕ → (RequestOf → Type 0) → Type 0
HasRequest input Holds = (request : RequestOf) × (request_of input ≡ Some request) × Holds request

-- the text is what is added for an input
abbrev pub IsAnswered : List ℕ → List ℕ → List ℕ → Type 0
IsAnswered input before after = HasRequest input (λ request. after ≡ before ++ request_lines request)

-- ---- refusals

-- the table, or the network of both, has a first fault
abbrev pub HasFault : Option (ℕ × FaultKind) → Type 0
HasFault fault = (first : ℕ × FaultKind) × (fault ≡ Some first)

-- what a refusal tells of the tables of a request: the one that it names has a fault
abbrev pub RefusesTables : RequestOf → InputRefusal → Type 0
RefusesTables request (refused.Table table.Points) = HasFault (points_fault request.points)
RefusesTables request (refused.Table table.Candidates) = HasFault (candidates_fault (points_of request.points) request.candidates)
RefusesTables request (refused.Table table.Network) =
    HasFault (network_fault (points_of request.points) (candidates_of (points_of request.points) request.candidates))
RefusesTables request refused.NoMemory = Unit {0}
RefusesTables request refused.Request = ⊥
RefusesTables request refused.Plan = ⊥

-- .. of a line
abbrev pub RefusesPlan : ℕ → List ℕ → InputRefusal → Type 0
RefusesPlan m line refused.Plan = IsFalse (is_plan m line)
RefusesPlan m line refused.NoMemory = Unit {0}
RefusesPlan m line refused.Request = ⊥
RefusesPlan m line (refused.Table name) = ⊥

-- each line is a plan of m candidates
abbrev pub are_plans : ℕ → List TextLineOf → Bool
are_plans m lines = list_all (λ (line : TextLineOf). is_plan m line.text) lines

-- .. of a text of plans
abbrev pub RefusesPlans : ℕ → List ℕ → InputRefusal → Type 0
RefusesPlans m plans refused.Plan = IsFalse (are_plans m (lines_of plans))
RefusesPlans m plans refused.NoMemory = Unit {0}
RefusesPlans m plans refused.Request = ⊥
RefusesPlans m plans (refused.Table name) = ⊥

-- .. of a whole input
abbrev pub RefusesInput : List ℕ → InputRefusal → Type 0
RefusesInput input refused.Request = request_of input ≡ None
RefusesInput input (refused.Table name) = HasRequest input (λ request. RefusesTables request (refused.Table name))
RefusesInput input refused.Plan =
    HasRequest input (λ request. RefusesPlans (length (network_for request).candidates) request.plans refused.Plan)
RefusesInput input refused.NoMemory = Unit {0}
