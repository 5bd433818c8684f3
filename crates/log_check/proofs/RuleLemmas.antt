-- Which rule a line breaks first.
use Rattle.std.proofs.Common.{◌≡◌, ◌⊎◌, ℕ, ◌<◌, ◌≤◌, ltb, not, ◌&&◌, Bool, true, false, List, length, get_or, Option, Some, None, refl, ap, sym, ◌∙◌, inl, inr}
use Rattle.std.specs.Prelude.{slice_get, ◌*ℤ◌}
use Rattle.std.proofs.lemmas.Bool.{lt-ltb, le-ltb}
use Rattle.std.proofs.lemmas.Option.{get_or_from_slice_get, slice_get_within}
use Rattle.geo_model.specs.Energy.{energy}
use Rattle.geo_model.specs.Limit.{LimitOf, IsInForce, load}
use Rattle.geo_model.specs.Meeting.{Breaks}
use Rattle.geo_model.specs.Network.{NetworkOf}
use Rattle.geo_model.specs.declared.plan.Node.{Node}
use Rattle.geo_model.specs.declared.verdict.Verdict.TheVariants.{Refuted}
use Rattle.pivot_chain.specs.Verdict.{verdict_of}
use Rattle.bound_log.specs.declared.log_kind.LogKind.{LogKind}
use Rattle.bound_log.specs.declared.log_kind.LogKind.TheVariants.{Range, NotOpen, Owner, NotRefuted, CutHolds}
use Rattle.bound_log.specs.declared.log_leaf.LogLeaf.TheVariants.{Pivot, Cut, Dual}
use Rattle.bound_log.specs.declared.log_line.LogLine.{LogLine}
use Rattle.bound_log.specs.declared.log_line.LogLine.TheVariants.{Split, Leaf}
use Rattle.bound_log.specs.CutText.{CutTextOf, displaced_by}
use Rattle.bound_log.specs.Rules.{LineRule, first_unkept, chooses_if_any, is_refuted, limit_passes, is_owned, is_refuting, is_breaking, is_displacement, is_in_range, is_open_for, line_rules, IsAllowedLine, IsFirstBroken}
use Rattle.bound_log.proofs.AllowedLemmas.{ordered, chooses_owner, owner_chosen, owner_test, verdict_refuted, verdict_test, breaking_test, where_less}

-- ---- one first rule

-- a line that breaks a rule isn't allowed
pub broken_not_allowed : (network : NetworkOf) (node : Node) (line : LogLine) (kind : LogKind) → IsFirstBroken network node line kind → IsAllowedLine network node line → ⊥
broken_not_allowed network node line kind first allowed = let same : Some kind ≡ None = sym first ∙ allowed in absurd (cc)

pub one_broken : (network : NetworkOf) (node : Node) (line : LogLine) (a b : LogKind) → IsFirstBroken network node line a → IsFirstBroken network node line b → a ≡ b
one_broken network node line a b first second = let same : Some a ≡ Some b = sym first ∙ second in cc

-- the first rule that a line breaks at a node
pub record BreaksRule (network : NetworkOf) (node : Node) (line : LogLine) : Type 0 where
  pub kind : LogKind
  pub first : IsFirstBroken network node line kind

-- each line is allowed at a node, or breaks a rule there first
pub judged : (network : NetworkOf) (node : Node) (line : LogLine) → IsAllowedLine network node line ⊎ BreaksRule network node line
judged network node line = by_rule (first_unkept (line_rules network node line)) refl
  where
    by_rule : (found : Option LogKind) → first_unkept (line_rules network node line) ≡ found → IsAllowedLine network node line ⊎ BreaksRule network node line
    by_rule None is = inl is
    by_rule (Some kind) is = inr (record { kind = kind; first = is })

-- ---- splits

pub split_out_of_range : (network : NetworkOf) (node : Node) (candidate : ℕ) → length network.candidates ≤ candidate → IsFirstBroken network node (Split candidate) Range
unfolding line_rules
split_out_of_range network node candidate past =
    ap (λ b. first_unkept (ordered ((b && true) && true) (is_open_for node (Split candidate)) true true true)) (le-ltb candidate (length network.candidates) past)

in_range : (network : NetworkOf) (node : Node) (candidate : ℕ) (test : Bool) → candidate < length network.candidates →
    first_unkept (ordered ((ltb candidate (length network.candidates) && true) && true) test true true true) ≡ first_unkept (ordered true test true true true)
in_range network node candidate test inside = ap (λ b. first_unkept (ordered ((b && true) && true) test true true true)) (lt-ltb candidate (length network.candidates) inside)

pub not_in_upper : (network : NetworkOf) (node : Node) (candidate : ℕ) → candidate < length network.candidates → slice_get node.upper candidate ≡ Some false → IsFirstBroken network node (Split candidate) NotOpen
unfolding line_rules
not_in_upper network node candidate inside out =
    in_range network node candidate (is_open_for node (Split candidate)) inside
    ∙ ap (λ b. first_unkept (ordered true ((b && not (get_or node.inside candidate true)) && true) true true true)) (get_or_from_slice_get node.upper candidate false false out)

pub already_inside : (network : NetworkOf) (node : Node) (candidate : ℕ) → candidate < length network.candidates → slice_get node.upper candidate ≡ Some true → slice_get node.inside candidate ≡ Some true → IsFirstBroken network node (Split candidate) NotOpen
unfolding line_rules
already_inside network node candidate inside upper chosen =
    in_range network node candidate (is_open_for node (Split candidate)) inside
    ∙ ap (λ b. first_unkept (ordered true ((b && not (get_or node.inside candidate true)) && true) true true true)) (get_or_from_slice_get node.upper candidate true false upper)
    ∙ ap (λ b. first_unkept (ordered true ((true && not b) && true) true true true)) (get_or_from_slice_get node.inside candidate true true chosen)

-- ---- leaves that name a limit

pub pivot_out_of_range : (network : NetworkOf) (node : Node) (number : ℕ) → length network.limits ≤ number → IsFirstBroken network node (Leaf (Pivot number)) Range
unfolding line_rules
pivot_out_of_range network node number past =
    ap (λ b. first_unkept (ordered (true && ((b && true) && true)) true (is_owned network node (Leaf (Pivot number))) (is_refuting network node (Leaf (Pivot number))) true)) (le-ltb number (length network.limits) past)

-- the rules after the range, at the limit that the number names
after_range : (network : NetworkOf) (node : Node) (number : ℕ) (limit : LimitOf) → slice_get network.limits number ≡ Some limit →
    first_unkept (line_rules network node (Leaf (Pivot number))) ≡ first_unkept (ordered true true (owner_test node limit && true) (verdict_test network node limit && true) true)
unfolding line_rules
after_range network node number limit named =
    ap (λ b. first_unkept (ordered (true && ((b && true) && true)) true (is_owned network node (Leaf (Pivot number))) (is_refuting network node (Leaf (Pivot number))) true)) (lt-ltb number (length network.limits) (slice_get_within network.limits number limit named))
    ∙ ap (λ o. first_unkept (ordered true true (limit_passes (owner_test node) o && true) (limit_passes (verdict_test network node) o && true) true)) named

not_true : (b : Bool) → (b ≡ true → ⊥) → b ≡ false
not_true true other = absurd (other refl)
not_true false other = refl

pub owner_broken : (network : NetworkOf) (node : Node) (number : ℕ) (limit : LimitOf) → slice_get network.limits number ≡ Some limit → (IsInForce limit node.inside → ⊥) → IsFirstBroken network node (Leaf (Pivot number)) Owner
owner_broken network node number limit named not_chosen =
    after_range network node number limit named
    ∙ ap (λ b. first_unkept (ordered true true (b && true) (verdict_test network node limit && true) true))
    (not_true (chooses_if_any node.inside limit.owner) (λ is. not_chosen (owner_chosen node.inside limit.owner is)))

pub verdict_broken : (network : NetworkOf) (node : Node) (number : ℕ) (limit : LimitOf) → slice_get network.limits number ≡ Some limit → IsInForce limit node.inside → (verdict_of network node.upper limit ≡ Refuted → ⊥) → IsFirstBroken network node (Leaf (Pivot number)) NotRefuted
verdict_broken network node number limit named chosen other =
    after_range network node number limit named
    ∙ ap (λ b. first_unkept (ordered true true (b && true) (verdict_test network node limit && true) true)) (chooses_owner node.inside limit.owner chosen)
    ∙ ap (λ b. first_unkept (ordered true true true (b && true) true)) (not_true (is_refuted (verdict_of network node.upper limit)) (λ is. other (verdict_refuted (verdict_of network node.upper limit) is)))

-- ---- leaves that name a displacement

-- the rules of such a leaf: the limit's range, the pairs' ranges, the owner, and the break
abbrev cut_rules : NetworkOf → Node → CutTextOf → Bool → Bool → Bool → Bool → List LineRule
cut_rules network node cut within moving owned breaking =
    ordered (true && ((within && true) && (moving && true))) true (owned && true) true (breaking && true)

-- .. at the limit that the number names
cut_named : (network : NetworkOf) (node : Node) (cut : CutTextOf) (limit : LimitOf) → slice_get network.limits cut.limit ≡ Some limit →
    first_unkept (line_rules network node (Leaf (Cut cut)))
    ≡ first_unkept (cut_rules network node cut true (is_displacement (length network.unknowns) cut.pairs) (owner_test node limit) (breaking_test network node cut limit))
unfolding line_rules
cut_named network node cut limit named =
    ap (λ b. first_unkept (ordered (true && ((b && true) && (is_displacement (length network.unknowns) cut.pairs && true))) true (is_owned network node (Leaf (Cut cut))) true (is_breaking network node (Leaf (Cut cut)))))
    (lt-ltb cut.limit (length network.limits) (slice_get_within network.limits cut.limit limit named))
    ∙ ap (λ o. first_unkept (ordered (true && (true && (is_displacement (length network.unknowns) cut.pairs && true))) true (limit_passes (owner_test node) o && true) true (limit_passes (breaking_test network node cut) o && true))) named

pub cut_out_of_range : (network : NetworkOf) (node : Node) (cut : CutTextOf) → length network.limits ≤ cut.limit → IsFirstBroken network node (Leaf (Cut cut)) Range
unfolding line_rules
cut_out_of_range network node cut past =
    ap (λ b. first_unkept (ordered (true && ((b && true) && (is_displacement (length network.unknowns) cut.pairs && true))) true (is_owned network node (Leaf (Cut cut))) true (is_breaking network node (Leaf (Cut cut))))) (le-ltb cut.limit (length network.limits) past)

pub moves_broken : (network : NetworkOf) (node : Node) (cut : CutTextOf) (limit : LimitOf) → slice_get network.limits cut.limit ≡ Some limit → is_displacement (length network.unknowns) cut.pairs ≡ false → IsFirstBroken network node (Leaf (Cut cut)) Range
moves_broken network node cut limit named other =
    cut_named network node cut limit named
    ∙ ap (λ b. first_unkept (cut_rules network node cut true b (owner_test node limit) (breaking_test network node cut limit))) other

pub cut_owner_broken : (network : NetworkOf) (node : Node) (cut : CutTextOf) (limit : LimitOf) → slice_get network.limits cut.limit ≡ Some limit → is_displacement (length network.unknowns) cut.pairs ≡ true → (IsInForce limit node.inside → ⊥) → IsFirstBroken network node (Leaf (Cut cut)) Owner
cut_owner_broken network node cut limit named moving not_chosen =
    cut_named network node cut limit named
    ∙ ap (λ b. first_unkept (cut_rules network node cut true b (owner_test node limit) (breaking_test network node cut limit))) moving
    ∙ ap (λ b. first_unkept (cut_rules network node cut true true b (breaking_test network node cut limit)))
    (not_true (chooses_if_any node.inside limit.owner) (λ is. not_chosen (owner_chosen node.inside limit.owner is)))

pub cut_holds : (network : NetworkOf) (node : Node) (cut : CutTextOf) (limit : LimitOf) → slice_get network.limits cut.limit ≡ Some limit → is_displacement (length network.unknowns) cut.pairs ≡ true → IsInForce limit node.inside → (Breaks network node.upper limit (displaced_by cut.pairs) → ⊥) → IsFirstBroken network node (Leaf (Cut cut)) CutHolds
cut_holds network node cut limit named moving chosen other =
    cut_named network node cut limit named
    ∙ ap (λ b. first_unkept (cut_rules network node cut true b (owner_test node limit) (breaking_test network node cut limit))) moving
    ∙ ap (λ b. first_unkept (cut_rules network node cut true true b (breaking_test network node cut limit))) (chooses_owner node.inside limit.owner chosen)
    ∙ ap (λ b. first_unkept (cut_rules network node cut true true true b))
    (not_true (breaking_test network node cut limit)
    (λ is. other (where_less (limit.alpha *ℤ energy network.candidates node.upper (displaced_by cut.pairs)) (load limit.squares (displaced_by cut.pairs)) is)))

-- ---- leaves of a dual bound

pub dual_out_of_range : (network : NetworkOf) (node : Node) (divisor : ℕ) (shares : List (ℕ × CutTextOf)) → is_in_range network (Leaf (Dual divisor shares)) ≡ false → IsFirstBroken network node (Leaf (Dual divisor shares)) Range
unfolding line_rules
dual_out_of_range network node divisor shares other =
    ap (λ b. first_unkept (ordered b true (is_owned network node (Leaf (Dual divisor shares))) true true)) other

pub dual_owner_broken : (network : NetworkOf) (node : Node) (divisor : ℕ) (shares : List (ℕ × CutTextOf)) → is_in_range network (Leaf (Dual divisor shares)) ≡ true → is_owned network node (Leaf (Dual divisor shares)) ≡ false → IsFirstBroken network node (Leaf (Dual divisor shares)) Owner
unfolding line_rules
dual_owner_broken network node divisor shares ranged other =
    ap (λ b. first_unkept (ordered b true (is_owned network node (Leaf (Dual divisor shares))) true true)) ranged
    ∙ ap (λ b. first_unkept (ordered true true b true true)) other

pub dual_kept : (network : NetworkOf) (node : Node) (divisor : ℕ) (shares : List (ℕ × CutTextOf)) → is_in_range network (Leaf (Dual divisor shares)) ≡ true → is_owned network node (Leaf (Dual divisor shares)) ≡ true → IsAllowedLine network node (Leaf (Dual divisor shares))
unfolding line_rules
dual_kept network node divisor shares ranged owned =
    ap (λ b. first_unkept (ordered b true (is_owned network node (Leaf (Dual divisor shares))) true true)) ranged
    ∙ ap (λ b. first_unkept (ordered true true b true true)) owned
