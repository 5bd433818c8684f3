-- Plans of a node as one cut sees them: how they are filled, and what two of them show.
use Rattle.std.proofs.Common.{◌≡◌, ◌≢◌, ◌<◌, ◌≤◌, ℕ, zero, suc, ◌+◌, ◌*◌, Bool, true, false, if◌then◌else◌, Some, List, [], ◌∷◌, length, set, get_or, refl, sym, ◌∙◌, ap, ap₂, subst, arith, below_more}
use Rattle.std.specs.Prelude.{slice_get}
use Rattle.std.proofs.lemmas.List.{get_or-set_same, get_or-set_other}
use Rattle.std.proofs.lemmas.Option.{slice_get_within, get_or_from_slice_get, same_Some}
use Rattle.geo_model.specs.Below.{sum_below}
use Rattle.geo_model.specs.Cover.{chosen_sum}
use Rattle.geo_model.specs.Energy.{IsWithin}
use Rattle.geo_model.specs.Network.{NetworkOf, IsNetwork}
use Rattle.geo_model.specs.Prices.{price_of, prices_of}
use Rattle.geo_model.specs.declared.plan.Node.{Node}
use Rattle.geo_model.proofs.BelowLemmas.{chosen_at, sum_below-more}
use Rattle.geo_model.proofs.PlanLemmas.{IsWithin-refl, IsWithin-with, IsWithin-length}
use Rattle.geo_model.proofs.PriceLemmas.{counted_if, network_stations}
use Rattle.cut_pool.specs.Cut.{CutOf, cover}
use Rattle.bound_log.specs.declared.bound.Bound.TheVariants.{AtLeast}
use Rattle.idle_splits.specs.Fillings.{IsPlanOf, IsFilling, IsMixedBelow}
use Rattle.idle_splits.specs.Idle.{cover_coefficient, price_at}
use Rattle.idle_splits.specs.UnitShares.{IsDearByKept}
use Rattle.idle_splits.specs.declared.filling.Filling.{Filling}
use Rattle.idle_splits.specs.declared.unit_cuts.UnitCuts.{UnitCuts}
use Rattle.idle_splits.proofs.Mixed.{mixed_bound}

-- ---- copies
pub copied_more : (room plan : List Bool) (i : ℕ) (flag : Bool) → i < length room → slice_get plan i ≡ Some flag → ((k : ℕ) → k < i → get_or room k false ≡ get_or plan k false)
    → (k : ℕ) → k < i + 1 → get_or (set room i flag) k false ≡ get_or plan k false
copied_more room plan i flag inside is before =
    below_more (λ k. get_or (set room i flag) k false ≡ get_or plan k false) i
    (λ k less. get_or-set_other room i k flag false (apart k less) ∙ before k less)
    (get_or-set_same room i flag false inside ∙ sym (get_or_from_slice_get plan i flag false is))
  where
    apart : (k : ℕ) → k < i → k ≢ i
    apart k less same = omega arith

pub same_flags : (xs ys : List Bool) → length xs ≡ length ys → ((k : ℕ) → k < length xs → get_or xs k false ≡ get_or ys k false) → xs ≡ ys
same_flags [] [] long same = refl
same_flags [] (y ∷ ys) long same = absurd (omega arith)
same_flags (x ∷ xs) [] long same = absurd (omega arith)
same_flags (x ∷ xs) (y ∷ ys) long same =
    ap₂ (λ (z : Bool) (zs : List Bool). z ∷ zs) (same 0 (omega arith)) (same_flags xs ys (omega arith) (λ k lt. same (suc k) (omega arith)))

-- ---- a candidate is put in
within_more : (small plan : List Bool) (i : ℕ) → IsWithin small plan → IsWithin small (set plan i true)
within_more [] [] i within = tt
within_more [] (y ∷ plan) i within = absurd within
within_more (x ∷ small) [] i within = absurd within
within_more (x ∷ small) (y ∷ plan) zero within = (λ h. refl, within.1)
within_more (x ∷ small) (y ∷ plan) (suc i) within = (within.0, within_more small plan i within.1)

pub put_in : (node : Node) (plan : List Bool) (i : ℕ) → IsPlanOf node plan → slice_get node.upper i ≡ Some true → IsPlanOf node (set plan i true)
put_in node plan i is may = record { above = within_more node.inside plan i is.above; below = IsWithin-with plan node.upper i is.below may }

pub place_in : (node : Node) (plan : List Bool) (i : ℕ) → IsPlanOf node plan → slice_get node.upper i ≡ Some true → i < length plan
place_in node plan i is may = omega (arith, IsWithin-length plan node.upper is.below, slice_get_within node.upper i true may)

pub long_as : (node : Node) (plan : List Bool) (count : ℕ) → IsPlanOf node plan → length node.upper ≡ count → length plan ≡ count
long_as node plan count is long = IsWithin-length plan node.upper is.below ∙ long

-- ---- what a plan weighs
pub weight_more : (coefficients : List ℕ) (plan : List Bool) (i : ℕ) (chosen : Bool) (before now : ℕ) → slice_get plan i ≡ Some chosen → before ≡ sum_below (chosen_at coefficients plan) i
    → (chosen ≡ true → now ≡ before + get_or coefficients i 0) → (chosen ≡ false → now ≡ before) → now ≡ sum_below (chosen_at coefficients plan) (i + 1)
weight_more coefficients plan i chosen before now flag so_far counts not =
    let flag_is : get_or plan i false ≡ chosen = get_or_from_slice_get plan i chosen false flag in
    let part : chosen_at coefficients plan i ≡ (if chosen then get_or coefficients i 0 else 0) = ap (λ (b : Bool). if b then get_or coefficients i 0 else 0) flag_is in
    counted_if chosen before (get_or coefficients i 0) now counts not
    ∙ ap₂ (λ (s t : ℕ). s + t) so_far (sym part)
    ∙ sym (sum_below-more (chosen_at coefficients plan) i)

-- ---- two plans
reached : (u v b c m n p q : ℕ) → b ≡ c → m ≡ n → p ≡ q → u * b + v * b ≤ u * m + v * p → u * c + v * c ≤ u * n + v * q
reached u v b c m n p q bs ms ps le = rw (← bs) (rw (← ms) (rw (← ps) le))

pub held : (network : NetworkOf) (node : Node) (cuts : UnitCuts) (k earlier bound : ℕ) (cut : CutOf) (one two : List Bool) (first second : Filling) → IsNetwork network → IsPlanOf node one → IsPlanOf node two
    → slice_get cuts.pool k ≡ Some cut → bound ≡ cut.bound → IsFilling network cuts k one first → IsFilling network cuts k two second → IsMixedBelow bound earlier first second
    → (candidate : ℕ) → IsDearByKept network node (AtLeast earlier) cuts k candidate → ⊥
held network node cuts k earlier bound cut one two first second bounds is_one is_two found bound_is fills fills_too mixed candidate dear =
    let found_too = dear.1 in
    let other = dear.0 in
    let same : cut ≡ other = same_Some cut other (sym found ∙ found_too) in
    let weighs = dear.2.weighs in
    let above = dear.2.above in
    let low = mixed_bound (prices_of network) (cover_coefficient (cover other) candidate) (price_at network candidate) other.coefficients other.bound earlier mixed.one mixed.two node one two
    (network_stations network bounds) (omega arith) is_one.above is_one.below is_two.above is_two.below mixed.some
    (reached mixed.one mixed.two bound other.bound first.weight (chosen_sum other.coefficients one) second.weight (chosen_sum other.coefficients two)
    (bound_is ∙ ap (λ (c : CutOf). c.bound) same) (fills.weight other found_too) (fills_too.weight other found_too) mixed.reaches)
    (cheap_as mixed.one mixed.two earlier first.price (price_of network one) second.price (price_of network two) fills.price fills_too.price mixed.cheap) in
    omega (arith, low, above)
  where
    cheap_as : (u v e m n p q : ℕ) → m ≡ n → p ≡ q → u * m + v * p ≤ u * e + v * e → u * n + v * q ≤ u * e + v * e
    cheap_as u v e m n p q ms ps le = rw (← ms) (rw (← ps) le)

-- the inner plan, copied
pub inner_plan : (node : Node) (plan : List Bool) → IsWithin node.inside node.upper → plan ≡ node.inside → IsPlanOf node plan
inner_plan node plan within is = subst (λ (p : List Bool). IsPlanOf node p) (sym is) (record { above = IsWithin-refl node.inside; below = within })
