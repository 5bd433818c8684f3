-- When a line of each kind is allowed at a node.
use Rattle.std.proofs.Common.{◌≡◌, ℕ, zero, suc, ◌<◌, ◌≤◌, ◌^◌, All, map, ltb, not, ◌&&◌, Bool, true, false, List, [], ◌∷◌, length, get_or, Option, Some, None, arith, refl, ap, sym, ◌∙◌, subst}
use Rattle.std.specs.Prelude.{slice_get, flat_map, nat_le, unsigned_abs, ℤ, ◌*ℤ◌, ◌<ℤ◌, int_lt}
use Rattle.std.specs.List.{list_all}
use Rattle.std.specs.Option.{ForSome}
use Rattle.std.proofs.lemmas.Bool.{le-leb, leb-true, ltb-true, lt-ltb}
use Rattle.std.proofs.lemmas.Int.{ints}
use Rattle.std.proofs.lemmas.List.Elements.{All-nil, All-cons, All-head, All-tail}
use Rattle.std.proofs.lemmas.Option.{get_or_from_slice_get, slice_get_within}
use Rattle.geo_model.specs.Energy.{energy}
use Rattle.geo_model.specs.Limit.{LimitOf, load}
use Rattle.geo_model.specs.Network.{NetworkOf, IsNetwork}
use Rattle.geo_model.specs.declared.plan.Node.{Node}
use Rattle.geo_model.specs.declared.verdict.Verdict.{Verdict}
use Rattle.geo_model.specs.declared.verdict.Verdict.TheVariants.{Met, Refuted, Open}
use Rattle.pivot_chain.specs.Verdict.{verdict_of}
use Rattle.bound_log.specs.declared.log_kind.LogKind.TheVariants.{Range, NotOpen, Owner, NotRefuted, CutHolds}
use Rattle.bound_log.specs.declared.log_leaf.LogLeaf.TheVariants.{Cost, Pivot, Cut, Dual}
use Rattle.bound_log.specs.declared.log_line.LogLine.{LogLine}
use Rattle.bound_log.specs.declared.log_line.LogLine.TheVariants.{Split, Leaf}
use Rattle.bound_log.specs.CutText.{CutTextOf, cut_numbers, displaced_by, pair_numbers}
use Rattle.bound_log.specs.DualText.{dual_numbers, share_numbers}
use Rattle.bound_log.specs.Grammar.{HasNumbersBelow, number_bound}
use Rattle.bound_log.specs.LogTree.{IsBrokenBy, IsDualLineAt, IsOpenAt, IsNodeRefutedBy, IsLineShareAt, IsWeight}
use Rattle.bound_log.specs.Numbers.{AreShort}
use Rattle.bound_log.specs.Rules.{LineRule, first_unkept, chooses_if_any, is_refuted, limit_passes, is_in_range, is_open_for, is_owned, is_refuting, is_breaking, is_broken_at, is_displacement, are_few, are_moves, is_move, is_weight, line_rules, IsAllowedLine}
use Rattle.bound_log.proofs.ItemLemmas.{short_both}

-- ---- the rules in their order

abbrev pub ordered : Bool → Bool → Bool → Bool → Bool → List LineRule
ordered range open_one owned refuting breaking =
    record { kept = range; kind = Range } ∷ record { kept = open_one; kind = NotOpen } ∷ record { kept = owned; kind = Owner } ∷ record { kept = refuting; kind = NotRefuted }
    ∷ record { kept = breaking; kind = CutHolds } ∷ []

record Keeps (range open_one owned refuting breaking : Bool) : Type 0 where
  in_range : range ≡ true
  is_open : open_one ≡ true
  is_owned : owned ≡ true
  is_refuting : refuting ≡ true
  is_breaking : breaking ≡ true

none_broken : (a b c d e : Bool) → first_unkept (ordered a b c d e) ≡ None → Keeps a b c d e
none_broken false b c d e is = absurd (cc)
none_broken true false c d e is = absurd (cc)
none_broken true true false d e is = absurd (cc)
none_broken true true true false e is = absurd (cc)
none_broken true true true true false is = absurd (cc)
none_broken true true true true true is = record { in_range = refl; is_open = refl; is_owned = refl; is_refuting = refl; is_breaking = refl }

all_kept : (a b c d e : Bool) → a ≡ true → b ≡ true → c ≡ true → d ≡ true → e ≡ true → first_unkept (ordered a b c d e) ≡ None
all_kept a b c d e one two three four five =
    ap (λ x. first_unkept (ordered x b c d e)) one
    ∙ ap (λ x. first_unkept (ordered true x c d e)) two
    ∙ ap (λ x. first_unkept (ordered true true x d e)) three
    ∙ ap (λ x. first_unkept (ordered true true true x e)) four
    ∙ ap (λ x. first_unkept (ordered true true true true x)) five

keeps : (network : NetworkOf) (node : Node) (line : LogLine) → IsAllowedLine network node line →
    Keeps (is_in_range network line) (is_open_for node line) (is_owned network node line) (is_refuting network node line) (is_breaking network node line)
unfolding line_rules
keeps network node line allowed =
    none_broken (is_in_range network line) (is_open_for node line) (is_owned network node line) (is_refuting network node line) (is_breaking network node line) allowed

allowed_where : (network : NetworkOf) (node : Node) (line : LogLine) → is_in_range network line ≡ true → is_open_for node line ≡ true →
    is_owned network node line ≡ true → is_refuting network node line ≡ true → is_breaking network node line ≡ true → IsAllowedLine network node line
unfolding line_rules
allowed_where network node line one two three four five =
    all_kept (is_in_range network line) (is_open_for node line) (is_owned network node line) (is_refuting network node line) (is_breaking network node line) one two three four five

-- a line that keeps all rules breaks none
unbroken : (a b c d e : Bool) → list_all (λ rule. rule.kept) (ordered a b c d e) ≡ true → first_unkept (ordered a b c d e) ≡ None
unbroken false b c d e all = absurd (cc)
unbroken true false c d e all = absurd (cc)
unbroken true true false d e all = absurd (cc)
unbroken true true true false e all = absurd (cc)
unbroken true true true true false all = absurd (cc)
unbroken true true true true true all = refl

each_kept : (a b c d e : Bool) → first_unkept (ordered a b c d e) ≡ None → list_all (λ rule. rule.kept) (ordered a b c d e) ≡ true
each_kept false b c d e none = absurd (cc)
each_kept true false c d e none = absurd (cc)
each_kept true true false d e none = absurd (cc)
each_kept true true true false e none = absurd (cc)
each_kept true true true true false none = absurd (cc)
each_kept true true true true true none = refl

pub allowed_keeps : (network : NetworkOf) (node : Node) (line : LogLine) → IsAllowedLine network node line → list_all (λ rule. rule.kept) (line_rules network node line) ≡ true
unfolding line_rules
allowed_keeps network node line allowed =
    each_kept (is_in_range network line) (is_open_for node line) (is_owned network node line) (is_refuting network node line) (is_breaking network node line) allowed

pub keeps_allowed : (network : NetworkOf) (node : Node) (line : LogLine) → list_all (λ rule. rule.kept) (line_rules network node line) ≡ true → IsAllowedLine network node line
unfolding line_rules
keeps_allowed network node line all =
    unbroken (is_in_range network line) (is_open_for node line) (is_owned network node line) (is_refuting network node line) (is_breaking network node line) all

-- ---- tests

record BothTrue (a b : Bool) : Type 0 where
  left : a ≡ true
  right : b ≡ true

both_true : (a b : Bool) → (a && b) ≡ true → BothTrue a b
both_true true true is = record { left = refl; right = refl }
both_true true false is = absurd (cc)
both_true false true is = absurd (cc)
both_true false false is = absurd (cc)

-- a plan chooses or lacks what its entry says
pub entry_true : (plan : List Bool) (i : ℕ) → get_or plan i false ≡ true → slice_get plan i ≡ Some true
entry_true [] i is = absurd (cc)
entry_true (x ∷ plan) zero is = ap Some is
entry_true (x ∷ plan) (suc i) is = entry_true plan i is

not_true : (b : Bool) → not b ≡ true → b ≡ false
not_true true is = absurd (cc)
not_true false is = refl

pub entry_false : (plan : List Bool) (i : ℕ) → not (get_or plan i true) ≡ true → slice_get plan i ≡ Some false
entry_false [] i is = absurd (cc)
entry_false (x ∷ plan) zero is = ap Some (not_true x is)
entry_false (x ∷ plan) (suc i) is = entry_false plan i is

-- an owner is chosen
pub chooses_owner : (plan : List Bool) (owner : Option ℕ) → ForSome owner (λ o. slice_get plan o ≡ Some true) → chooses_if_any plan owner ≡ true
chooses_owner plan None chosen = refl
chooses_owner plan (Some o) chosen = get_or_from_slice_get plan o true false (chosen o refl)

pub owner_chosen : (plan : List Bool) (owner : Option ℕ) → chooses_if_any plan owner ≡ true → ForSome owner (λ o. slice_get plan o ≡ Some true)
owner_chosen plan None is = λ o none. absurd (cc)
owner_chosen plan (Some k) is = λ o some. let same : k ≡ o = cc in subst (λ (n : ℕ). slice_get plan n ≡ Some true) same (entry_true plan k is)

pub verdict_refuted : (found : Verdict) → is_refuted found ≡ true → found ≡ Refuted
verdict_refuted Met is = absurd (cc)
verdict_refuted Refuted is = refl
verdict_refuted (Open step lo hi) is = absurd (cc)

-- ---- splits

pub split_allowed : (network : NetworkOf) (node : Node) (candidate : ℕ) → IsOpenAt network node candidate → IsAllowedLine network node (Split candidate)
split_allowed network node candidate here =
    allowed_where network node (Split candidate)
    (ap (λ b. (b && true) && true) (lt-ltb candidate (length network.candidates) here.in_range))
    (ap (λ b. (b && not (get_or node.inside candidate true)) && true) (get_or_from_slice_get node.upper candidate true false here.in_upper)
    ∙ ap (λ b. (true && not b) && true) (get_or_from_slice_get node.inside candidate false true here.not_inside))
    refl refl refl

pub split_open : (network : NetworkOf) (node : Node) (candidate : ℕ) → IsAllowedLine network node (Split candidate) → IsOpenAt network node candidate
split_open network node candidate allowed =
    let kept = keeps network node (Split candidate) allowed in
    let below = both_true (ltb candidate (length network.candidates) && true) true kept.in_range in
    let within = both_true (ltb candidate (length network.candidates)) true below.left in
    let here = both_true (get_or node.upper candidate false && not (get_or node.inside candidate true)) true kept.is_open in
    let parts = both_true (get_or node.upper candidate false) (not (get_or node.inside candidate true)) here.left in
    record {
      in_range = ltb-true candidate (length network.candidates) within.left;
      in_upper = entry_true node.upper candidate parts.left;
      not_inside = entry_false node.inside candidate parts.right;
    }

-- ---- leaves

pub cost_allowed : (network : NetworkOf) (node : Node) → IsAllowedLine network node (Leaf Cost)
cost_allowed network node = allowed_where network node (Leaf Cost) refl refl refl refl refl

abbrev pub owner_test : Node → LimitOf → Bool
owner_test node limit = chooses_if_any node.inside limit.owner

abbrev pub verdict_test : NetworkOf → Node → LimitOf → Bool
verdict_test network node limit = is_refuted (verdict_of network node.upper limit)

pub pivot_allowed : (network : NetworkOf) (node : Node) (number : ℕ) → IsNodeRefutedBy network node number → IsAllowedLine network node (Leaf (Pivot number))
pivot_allowed network node number by =
    allowed_where network node (Leaf (Pivot number))
    (ap (λ b. true && ((b && true) && true)) (lt-ltb number (length network.limits) (slice_get_within network.limits number by.limit by.named)))
    refl
    (ap (λ o. limit_passes (owner_test node) o && true) by.named ∙ ap (λ b. b && true) (chooses_owner node.inside by.limit.owner by.owned))
    (ap (λ o. limit_passes (verdict_test network node) o && true) by.named ∙ ap (λ v. is_refuted v && true) by.refuted)
    refl

-- the element at a place within a list
pub record Found {X : Type 0} (xs : List X) (i : ℕ) : Type 0 where
  pub item : X
  pub named : slice_get xs i ≡ Some item

pub item_at : {X : Type 0} (xs : List X) (i : ℕ) → i < length xs → Found xs i
item_at [] i inside = absurd (omega arith)
item_at (x ∷ xs) zero inside = record { item = x; named = refl }
item_at (x ∷ xs) (suc i) inside =
    let below : i < length xs = omega arith in
    let found = item_at xs i below in
    record { item = found.item; named = found.named }

pub pivot_refuted : (network : NetworkOf) (node : Node) (number : ℕ) → IsAllowedLine network node (Leaf (Pivot number)) → IsNodeRefutedBy network node number
pivot_refuted network node number allowed =
    let kept = keeps network node (Leaf (Pivot number)) allowed in
    let below = both_true (ltb number (length network.limits) && true) true kept.in_range in
    let within = both_true (ltb number (length network.limits)) true below.left in
    let found = item_at network.limits number (ltb-true number (length network.limits) within.left) in
    let owner : (chooses_if_any node.inside found.item.owner && true) ≡ true = sym (ap (λ o. limit_passes (owner_test node) o && true) found.named) ∙ kept.is_owned in
    let verdict : (verdict_test network node found.item && true) ≡ true = sym (ap (λ o. limit_passes (verdict_test network node) o && true) found.named) ∙ kept.is_refuting in
    record {
      limit = found.item;
      named = found.named;
      owned = owner_chosen node.inside found.item.owner (both_true (chooses_if_any node.inside found.item.owner) true owner).left;
      refuted = verdict_refuted (verdict_of network node.upper found.item) (both_true (verdict_test network node found.item) true verdict).left;
    }

-- ---- cuts

abbrev pub breaking_test : NetworkOf → Node → CutTextOf → LimitOf → Bool
breaking_test network node cut limit = is_broken_at network node.upper (displaced_by cut.pairs) limit

pub less_where : (p q : ℤ) → p <ℤ q → int_lt p q ≡ true
less_where p q below = grind (arith, ints)

pub where_less : (p q : ℤ) → int_lt p q ≡ true → p <ℤ q
where_less p q is = grind (arith, ints)

pub cut_allowed : (network : NetworkOf) (node : Node) (cut : CutTextOf) → IsBrokenBy network node cut → IsAllowedLine network node (Leaf (Cut cut))
cut_allowed network node cut by =
    let within : ltb cut.limit (length network.limits) ≡ true = lt-ltb cut.limit (length network.limits) (slice_get_within network.limits cut.limit by.limit by.named) in
    let breaks : is_broken_at network node.upper (displaced_by cut.pairs) by.limit ≡ true =
    less_where (by.limit.alpha *ℤ energy network.candidates node.upper (displaced_by cut.pairs)) (load by.limit.squares (displaced_by cut.pairs)) by.breaks in
    allowed_where network node (Leaf (Cut cut))
    (ap (λ b. true && ((b && true) && (is_displacement (length network.unknowns) cut.pairs && true))) within ∙ ap (λ b. b && true) by.displacement)
    refl
    (ap (λ o. limit_passes (owner_test node) o && true) by.named ∙ ap (λ b. b && true) (chooses_owner node.inside by.limit.owner by.owned))
    refl
    (ap (λ o. limit_passes (breaking_test network node cut) o && true) by.named ∙ ap (λ b. b && true) breaks)

pub cut_broken : (network : NetworkOf) (node : Node) (cut : CutTextOf) → IsAllowedLine network node (Leaf (Cut cut)) → IsBrokenBy network node cut
cut_broken network node cut allowed =
    let kept = keeps network node (Leaf (Cut cut)) allowed in
    let parts = both_true (ltb cut.limit (length network.limits) && true) (is_displacement (length network.unknowns) cut.pairs && true) kept.in_range in
    let within = both_true (ltb cut.limit (length network.limits)) true parts.left in
    let found = item_at network.limits cut.limit (ltb-true cut.limit (length network.limits) within.left) in
    let owner : (chooses_if_any node.inside found.item.owner && true) ≡ true = sym (ap (λ o. limit_passes (owner_test node) o && true) found.named) ∙ kept.is_owned in
    let breaking : (breaking_test network node cut found.item && true) ≡ true = sym (ap (λ o. limit_passes (breaking_test network node cut) o && true) found.named) ∙ kept.is_breaking in
    record {
      limit = found.item;
      named = found.named;
      displacement = (both_true (is_displacement (length network.unknowns) cut.pairs) true parts.right).left;
      owned = owner_chosen node.inside found.item.owner (both_true (chooses_if_any node.inside found.item.owner) true owner).left;
      breaks = where_less (found.item.alpha *ℤ energy network.candidates node.upper (displaced_by cut.pairs)) (load found.item.squares (displaced_by cut.pairs))
          (both_true (breaking_test network node cut found.item) true breaking).left;
    }

-- ---- dual bounds

pub weight_passes : (weight : ℕ) → IsWeight weight → is_weight weight ≡ true
weight_passes weight is = ap (λ b. b && nat_le weight (2 ^ 44)) (le-leb 1 weight is.low) ∙ le-leb weight (2 ^ 44) is.high

pub weight_passed : (weight : ℕ) → is_weight weight ≡ true → IsWeight weight
weight_passed weight is =
    let parts = both_true (nat_le 1 weight) (nat_le weight (2 ^ 44)) is in
    record { low = leb-true 1 weight parts.left; high = leb-true weight (2 ^ 44) parts.right }

abbrev multiplier_of : ℕ × CutTextOf → ℕ
multiplier_of share = share.0

abbrev limit_of : ℕ × CutTextOf → ℕ
limit_of share = share.1.limit

abbrev pairs_of : ℕ × CutTextOf → List (ℕ × ℤ)
pairs_of share = share.1.pairs

abbrev below_limits : NetworkOf → ℕ → Bool
below_limits network number = ltb number (length network.limits)

abbrev pub owned_at : NetworkOf → Node → ℕ → Bool
owned_at network node number = limit_passes (owner_test node) (slice_get network.limits number)

-- what the rules ask of shares
record SharesPass (network : NetworkOf) (node : Node) (shares : List (ℕ × CutTextOf)) : Type 0 where
  weights : list_all is_weight (map multiplier_of shares) ≡ true
  limits : list_all (below_limits network) (map limit_of shares) ≡ true
  displacements : list_all (is_displacement (length network.unknowns)) (map pairs_of shares) ≡ true
  owned : list_all (owned_at network node) (map limit_of shares) ≡ true

both_pass : (a b : Bool) → a ≡ true → b ≡ true → (a && b) ≡ true
both_pass a b one two = ap (λ x. x && b) one ∙ two

shares_pass : (network : NetworkOf) (node : Node) (shares : List (ℕ × CutTextOf)) → All (IsLineShareAt network node) shares → SharesPass network node shares
shares_pass network node [] each = record { weights = refl; limits = refl; displacements = refl; owned = refl }
shares_pass network node (share ∷ shares) each =
    let one = All-head (IsLineShareAt network node) share shares each in
    let later = shares_pass network node shares (All-tail (IsLineShareAt network node) share shares each) in
    let within : share.1.limit < length network.limits = slice_get_within network.limits share.1.limit one.limit one.named in
    record {
      weights = both_pass (is_weight share.0) (list_all is_weight (map multiplier_of shares)) (weight_passes share.0 one.multiplier) later.weights;
      limits = both_pass (below_limits network share.1.limit) (list_all (below_limits network) (map limit_of shares)) (lt-ltb share.1.limit (length network.limits) within) later.limits;
      displacements = both_pass (is_displacement (length network.unknowns) share.1.pairs) (list_all (is_displacement (length network.unknowns)) (map pairs_of shares)) one.displacement later.displacements;
      owned = both_pass (owned_at network node share.1.limit) (list_all (owned_at network node) (map limit_of shares))
          (ap (limit_passes (owner_test node)) one.named ∙ chooses_owner node.inside one.limit.owner one.owned) later.owned;
    }

share_at : (network : NetworkOf) (node : Node) (share : ℕ × CutTextOf) → is_weight share.0 ≡ true → below_limits network share.1.limit ≡ true → is_displacement (length network.unknowns) share.1.pairs ≡ true →
    owned_at network node share.1.limit ≡ true → IsLineShareAt network node share
share_at network node share weight limit displacement owned =
    let found = item_at network.limits share.1.limit (ltb-true share.1.limit (length network.limits) limit) in
    let owner : chooses_if_any node.inside found.item.owner ≡ true = sym (ap (limit_passes (owner_test node)) found.named) ∙ owned in
    record {
      multiplier = weight_passed share.0 weight;
      limit = found.item;
      named = found.named;
      displacement = displacement;
      owned = owner_chosen node.inside found.item.owner owner;
    }

shares_at : (network : NetworkOf) (node : Node) (shares : List (ℕ × CutTextOf)) → SharesPass network node shares → All (IsLineShareAt network node) shares
shares_at network node [] pass = All-nil (IsLineShareAt network node)
shares_at network node (share ∷ shares) pass =
    let weights = both_true (is_weight share.0) (list_all is_weight (map multiplier_of shares)) pass.weights in
    let limits = both_true (below_limits network share.1.limit) (list_all (below_limits network) (map limit_of shares)) pass.limits in
    let displacements = both_true (is_displacement (length network.unknowns) share.1.pairs) (list_all (is_displacement (length network.unknowns)) (map pairs_of shares)) pass.displacements in
    let owned = both_true (owned_at network node share.1.limit) (list_all (owned_at network node) (map limit_of shares)) pass.owned in
    All-cons (IsLineShareAt network node) share shares (share_at network node share weights.left limits.left displacements.left owned.left)
    (shares_at network node shares (record { weights = weights.right; limits = limits.right; displacements = displacements.right; owned = owned.right }))

pub dual_allowed : (network : NetworkOf) (node : Node) (divisor : ℕ) (shares : List (ℕ × CutTextOf)) → IsDualLineAt network node divisor shares → IsAllowedLine network node (Leaf (Dual divisor shares))
dual_allowed network node divisor shares here =
    let pass = shares_pass network node shares here.each in
    let weights = list_all is_weight (divisor ∷ map multiplier_of shares) in
    let limits = list_all (below_limits network) (map limit_of shares) in
    let displacements = list_all (is_displacement (length network.unknowns)) (map pairs_of shares) in
    allowed_where network node (Leaf (Dual divisor shares))
    (both_pass weights ((are_few (length shares) && true) && (limits && displacements))
    (both_pass (is_weight divisor) (list_all is_weight (map multiplier_of shares)) (weight_passes divisor here.divides) pass.weights)
    (both_pass (are_few (length shares) && true) (limits && displacements) (ap (λ b. b && true) (le-leb (length shares) 64 here.few)) (both_pass limits displacements pass.limits pass.displacements)))
    refl pass.owned refl refl

pub dual_at : (network : NetworkOf) (node : Node) (divisor : ℕ) (shares : List (ℕ × CutTextOf)) → IsAllowedLine network node (Leaf (Dual divisor shares)) → IsDualLineAt network node divisor shares
dual_at network node divisor shares allowed =
    let kept = keeps network node (Leaf (Dual divisor shares)) allowed in
    let limits = list_all (below_limits network) (map limit_of shares) in
    let displacements = list_all (is_displacement (length network.unknowns)) (map pairs_of shares) in
    let range = both_true (list_all is_weight (divisor ∷ map multiplier_of shares)) ((are_few (length shares) && true) && (limits && displacements)) kept.in_range in
    let weights = both_true (is_weight divisor) (list_all is_weight (map multiplier_of shares)) range.left in
    let others = both_true (are_few (length shares) && true) (limits && displacements) range.right in
    let named = both_true limits displacements others.right in
    record {
      divides = weight_passed divisor weights.left;
      few = leb-true (length shares) 64 (both_true (are_few (length shares)) true others.left).left;
      each = shares_at network node shares (record { weights = weights.right; limits = named.left; displacements = named.right; owned = kept.is_owned });
    }

-- ---- numbers

-- the numbers of moves of at most 64 unknowns are short
moves_short : (unknowns least : ℕ) (pairs : List (ℕ × ℤ)) → unknowns ≤ 64 → are_moves unknowns least pairs ≡ true → AreShort (flat_map pair_numbers pairs)
moves_short unknowns least [] few is = tt
moves_short unknowns least (pair ∷ pairs) few is =
    let parts = both_true (is_move unknowns least pair) (are_moves unknowns (suc pair.0) pairs) is in
    let move = both_true (nat_le least pair.0 && ltb pair.0 unknowns) (ltb 0 (unsigned_abs pair.1) && nat_le (unsigned_abs pair.1) 32768) parts.left in
    let place = both_true (nat_le least pair.0) (ltb pair.0 unknowns) move.left in
    let size = both_true (ltb 0 (unsigned_abs pair.1)) (nat_le (unsigned_abs pair.1) 32768) move.right in
    let below : pair.0 < unknowns = ltb-true pair.0 unknowns place.right in
    let small : unsigned_abs pair.1 ≤ 32768 = leb-true (unsigned_abs pair.1) 32768 size.right in
    (omega (arith, below, few), (omega (arith, small), moves_short unknowns (suc pair.0) pairs few parts.right))

cut_short : (network : NetworkOf) (cut : CutTextOf) → IsNetwork network → cut.limit < length network.limits → is_displacement (length network.unknowns) cut.pairs ≡ true → AreShort (cut_numbers cut)
cut_short network cut bounds inside displacement =
    let few : length network.limits ≤ 20000 = bounds.limits in
    let parts = both_true (nat_le (length cut.pairs) (length network.unknowns)) (are_moves (length network.unknowns) 0 cut.pairs) displacement in
    let count : length cut.pairs ≤ length network.unknowns = leb-true (length cut.pairs) (length network.unknowns) parts.left in
    let narrow : length network.unknowns ≤ 64 = bounds.unknowns in
    (omega (arith, inside, few), (omega (arith, count, narrow), moves_short (length network.unknowns) 0 cut.pairs narrow parts.right))

shares_short : (network : NetworkOf) (node : Node) (shares : List (ℕ × CutTextOf)) → IsNetwork network → All (IsLineShareAt network node) shares → AreShort (flat_map share_numbers shares)
shares_short network node [] bounds each = tt
shares_short network node (share ∷ shares) bounds each =
    let one = All-head (IsLineShareAt network node) share shares each in
    let high : share.0 ≤ 2 ^ 44 = one.multiplier.high in
    short_both (share_numbers share) (flat_map share_numbers shares)
    (omega (arith, high), cut_short network share.1 bounds (slice_get_within network.limits share.1.limit one.limit one.named) one.displacement)
    (shares_short network node shares bounds (All-tail (IsLineShareAt network node) share shares each))

dual_short : (network : NetworkOf) (node : Node) (divisor : ℕ) (shares : List (ℕ × CutTextOf)) → IsNetwork network → IsDualLineAt network node divisor shares → AreShort (dual_numbers divisor shares)
dual_short network node divisor shares bounds here =
    let high : divisor ≤ 2 ^ 44 = here.divides.high in
    let few : length shares ≤ 64 = here.few in
    (omega (arith, high), (omega (arith, few), shares_short network node shares bounds here.each))

-- the numbers of an allowed line have at most 19 digits
pub line_numbers : (network : NetworkOf) (node : Node) (line : LogLine) → IsNetwork network → IsAllowedLine network node line → HasNumbersBelow number_bound line
line_numbers network node (Split candidate) bounds allowed =
    let here = split_open network node candidate allowed in
    let inside : candidate < length network.candidates = here.in_range in
    let few : length network.candidates ≤ 256 = bounds.candidates in
    (omega arith, tt)
line_numbers network node (Leaf Cost) bounds allowed = tt
line_numbers network node (Leaf (Pivot limit)) bounds allowed =
    let by = pivot_refuted network node limit allowed in
    let inside : limit < length network.limits = slice_get_within network.limits limit by.limit by.named in
    let few : length network.limits ≤ 20000 = bounds.limits in
    (omega arith, tt)
line_numbers network node (Leaf (Cut cut)) bounds allowed =
    let by = cut_broken network node cut allowed in
    cut_short network cut bounds (slice_get_within network.limits cut.limit by.limit by.named) by.displacement
line_numbers network node (Leaf (Dual divisor shares)) bounds allowed = dual_short network node divisor shares bounds (dual_at network node divisor shares allowed)
