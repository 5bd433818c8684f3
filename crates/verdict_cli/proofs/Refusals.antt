-- What each refusal of a part tells of the whole.
use Rattle.std.proofs.Common.{◌≡◌, ◌∙◌, ℕ, Bool, List, ◌∷◌, Some, ◌++◌, length, sym, ap, subst}
use Rattle.std.specs.Prelude.{◌&&◌}
use Rattle.lent_parts.specs.Pieces.{TextLineOf, lines_of}
use Rattle.geo_model.specs.Network.{NetworkOf}
use Rattle.verdict_cli.specs.declared.refusal.InputRefusal.{InputRefusal}
use Rattle.verdict_cli.specs.declared.refusal.InputRefusal.TheVariants as refused
use Rattle.verdict_cli.specs.Request.{RequestOf, request_of}
use Rattle.verdict_cli.specs.Answer.{IsAnswered, RefusesInput, RefusesPlan, plans_lines, RefusesPlans, RefusesTables, are_plans, network_for}

-- the tables' refusal is the input's
pub from_tables : (input : List ℕ) (request : RequestOf) (r : InputRefusal) → request_of input ≡ Some request → RefusesTables request r → RefusesInput input r
from_tables input request (refused.Table name) e h = (request, e, h)
from_tables input request refused.NoMemory e h = h
from_tables input request refused.Request e h = absurd h
from_tables input request refused.Plan e h = absurd h

-- the plans' refusal is the input's
pub from_plans : (input : List ℕ) (request : RequestOf) (network : NetworkOf) (r : InputRefusal) → request_of input ≡ Some request → network ≡ network_for request
    → RefusesPlans (length network.candidates) request.plans r → RefusesInput input r
from_plans input request network refused.Plan e n h =
    (request, e, subst (λ (net : NetworkOf). RefusesPlans (length net.candidates) request.plans refused.Plan) n h)
from_plans input request network refused.NoMemory e n h = h
from_plans input request network refused.Request e n h = absurd h
from_plans input request network (refused.Table name) e n h = absurd h

-- a line that is no plan, among the lines that are left
pub from_line : (m : ℕ) (line : TextLineOf) (rest more : List TextLineOf) (plans : List ℕ) (r : InputRefusal) → rest ≡ line ∷ more
    → are_plans m rest ≡ are_plans m (lines_of plans) → RefusesPlan m line.text r → RefusesPlans m plans r
from_line m line rest more plans refused.Plan cut all h =
    sym all ∙ ap (are_plans m) cut ∙ ap (λ (b : Bool). b && are_plans m more) h
from_line m line rest more plans refused.NoMemory cut all h = h
from_line m line rest more plans refused.Request cut all h = absurd h
from_line m line rest more plans (refused.Table name) cut all h = absurd h

-- what is added for the plans is added for the input
pub answered : (input : List ℕ) (request : RequestOf) (network : NetworkOf) (before after : List ℕ) → request_of input ≡ Some request → network ≡ network_for request
    → after ≡ before ++ plans_lines network request.plans → IsAnswered input before after
answered input request network before after e n h =
    (request, e, h ∙ ap (λ (net : NetworkOf). before ++ plans_lines net request.plans) n)
