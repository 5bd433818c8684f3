-- The rules of a line of a log at its node, in the order in which they are looked at. This project's own.
use Rattle.std.specs.Prelude.{ℕ, suc, ◌^◌, ◌≡◌, ltb, nat_le, not, ◌&&◌, List, [], ◌∷◌, Bool, true, false, length, get_or, Option, Some, None, slice_get, if◌then◌else◌, ℤ, ◌*ℤ◌, int_lt, unsigned_abs}
use Rattle.std.specs.List.{list_all}
use Rattle.geo_model.specs.Energy.{energy}
use Rattle.geo_model.specs.Limit.{LimitOf, load}
use Rattle.geo_model.specs.Network.{NetworkOf}
use Rattle.geo_model.specs.Row.{Displaced}
use Rattle.geo_model.specs.declared.plan.Node.{Node}
use Rattle.geo_model.specs.declared.verdict.Verdict.{Verdict}
use Rattle.geo_model.specs.declared.verdict.Verdict.TheVariants.{Met, Refuted, Open}
use Rattle.pivot_chain.specs.Verdict.{verdict_of}
use Rattle.bound_log.specs.declared.log_kind.LogKind.{LogKind}
use Rattle.bound_log.specs.declared.log_kind.LogKind.TheVariants.{Range, NotOpen, Owner, NotRefuted, CutHolds}
use Rattle.bound_log.specs.declared.log_line.LogLine.{LogLine}
use Rattle.bound_log.specs.CutText.{displaced_by}
use Rattle.bound_log.specs.Lines.{candidates_split, cuts_broken, displacements_of, limits_named, limits_refuting, share_counts, weights_of}

-- ---- rules

-- a rule of a line: whether the line keeps it, and the kind of fault where it doesn't
pub record LineRule : Type 0 where
  pub kept : Bool
  pub kind : LogKind

-- the kind of the first rule that isn't kept
abbrev pub first_unkept : List LineRule → Option LogKind
first_unkept [] = None
first_unkept (rule ∷ rules) = if rule.kept then first_unkept rules else Some rule.kind

-- ---- tests

-- a node leaves a candidate open: it is in its upper plan and not in its inner one
abbrev pub leaves_open : Node → ℕ → Bool
leaves_open node candidate = get_or node.upper candidate false && not (get_or node.inside candidate true)

-- a candidate that may be none is in the plan
abbrev pub chooses_if_any : List Bool → Option ℕ → Bool
chooses_if_any plan None = true
chooses_if_any plan (Some candidate) = get_or plan candidate false

abbrev pub is_refuted : Verdict → Bool
is_refuted Met = false
is_refuted Refuted = true
is_refuted (Open step lo hi) = false

-- the limit of a number passes a test
abbrev pub limit_passes : (LimitOf → Bool) → Option LimitOf → Bool
limit_passes test None = false
limit_passes test (Some limit) = test limit

-- an unknown, by its number, of `unknowns` and from `least` on, moves by at most 32768 in size, and does move
abbrev pub is_move : ℕ → ℕ → ℕ × ℤ → Bool
is_move unknowns least pair = (nat_le least pair.0 && ltb pair.0 unknowns) && (ltb 0 (unsigned_abs pair.1) && nat_le (unsigned_abs pair.1) 32768)

-- moves of unknowns from `least` on, in the order of their numbers
abbrev pub are_moves : ℕ → ℕ → List (ℕ × ℤ) → Bool
are_moves unknowns least [] = true
are_moves unknowns least (pair ∷ rest) = is_move unknowns least pair && are_moves unknowns (suc pair.0) rest

-- pairs are a displacement of so many unknowns: no more pairs than unknowns, in the order of the unknowns
abbrev pub is_displacement : ℕ → List (ℕ × ℤ) → Bool
is_displacement unknowns pairs = nat_le (length pairs) unknowns && are_moves unknowns 0 pairs

-- a divisor or a multiplier is from 1 to 2^44
abbrev pub is_weight : ℕ → Bool
is_weight weight = nat_le 1 weight && nat_le weight (2 ^ 44)

-- shares are at most 64
abbrev pub are_few : ℕ → Bool
are_few count = nat_le count 64

-- a displacement breaks a limit under a plan: the factor times the energy is less than the load
abbrev pub is_broken_at : NetworkOf → List Bool → Displaced → LimitOf → Bool
is_broken_at network plan x limit = int_lt (limit.alpha *ℤ energy network.candidates plan x) (load limit.squares x)

-- ---- the rules of a line

-- each number of the line is in its range
abbrev pub is_in_range : NetworkOf → LogLine → Bool
is_in_range network line =
    list_all is_weight (weights_of line) &&
    (list_all are_few (share_counts line) &&
    (list_all (λ candidate. ltb candidate (length network.candidates)) (candidates_split line) &&
    (list_all (λ number. ltb number (length network.limits)) (limits_named line) &&
    list_all (is_displacement (length network.unknowns)) (displacements_of line))))

-- a split is on a candidate that the node leaves open
abbrev pub is_open_for : Node → LogLine → Bool
is_open_for node line = list_all (leaves_open node) (candidates_split line)

-- each limit that the line names is in force for the inner plan: it has no owner, or the plan chooses its owner
abbrev pub is_owned : NetworkOf → Node → LogLine → Bool
is_owned network node line = list_all (λ number. limit_passes (λ limit. chooses_if_any node.inside limit.owner) (slice_get network.limits number)) (limits_named line)

-- the verdict of the upper plan is Refuted on each limit on which the line says so
abbrev pub is_refuting : NetworkOf → Node → LogLine → Bool
is_refuting network node line =
    list_all (λ number. limit_passes (λ limit. is_refuted (verdict_of network node.upper limit)) (slice_get network.limits number)) (limits_refuting line)

-- each displacement that, the line says, breaks its limit under the upper plan does so
abbrev pub is_breaking : NetworkOf → Node → LogLine → Bool
is_breaking network node line =
    list_all (λ cut. limit_passes (is_broken_at network node.upper (displaced_by cut.pairs)) (slice_get network.limits cut.limit)) (cuts_broken line)

-- the rules of a line at a node
unfoldable pub line_rules : NetworkOf → Node → LogLine → List LineRule
line_rules network node line =
    record { kept = is_in_range network line; kind = Range }
    ∷ record { kept = is_open_for node line; kind = NotOpen }
    ∷ record { kept = is_owned network node line; kind = Owner }
    ∷ record { kept = is_refuting network node line; kind = NotRefuted }
    ∷ record { kept = is_breaking network node line; kind = CutHolds }
    ∷ []

-- a line is allowed at a node: it breaks no rule
abbrev pub IsAllowedLine : NetworkOf → Node → LogLine → Type 0
IsAllowedLine network node line = first_unkept (line_rules network node line) ≡ None

-- the first rule that a line breaks at a node is of this kind
abbrev pub IsFirstBroken : NetworkOf → Node → LogLine → LogKind → Type 0
IsFirstBroken network node line kind = first_unkept (line_rules network node line) ≡ Some kind
