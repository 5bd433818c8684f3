use Rattle.std.proofs.Common.{◌≡◌, ◌<◌, ◌≤◌, map, ℕ, zero, suc, Bool, true, false, List, [], ◌∷◌, length, replicate, arith, refl, sym, Some, subst, ◌⊎◌, inl, inr}
use Rattle.std.specs.Prelude.{slice_get, All, ℤ, ◌*ℤ◌, ◌≤ℤ◌, ◌<ℤ◌}
use Rattle.std.proofs.lemmas.Int.{ints}
use Rattle.std.proofs.lemmas.List.Elements.{All-nil, All-cons, All-head, All-tail}
use Rattle.std.proofs.lemmas.Option.{slice_get_within}
use Rattle.geo_model.specs.Cover.{Satisfies}
use Rattle.geo_model.specs.Dual.{WeighedCover}
use Rattle.geo_model.specs.Energy.{energy, IsWithin}
use Rattle.geo_model.specs.Limit.{LimitOf, IsInForce, load}
use Rattle.geo_model.specs.Meeting.{Breaks, MeetsLimits, MeetsLimit}
use Rattle.geo_model.specs.Row.{Displaced}
use Rattle.geo_model.specs.Network.{NetworkOf, IsNetwork, IsLimit}
use Rattle.geo_model.specs.declared.plan.Node.{Node}
use Rattle.geo_model.specs.Prices.{PricesOf, HasStationPrices, plan_price, prices_of}
use Rattle.geo_model.proofs.DualLemmas.{dual_bound-below}
use Rattle.geo_model.proofs.EnergyLemmas.{MeetsLimit-grows}
pub use Rattle.geo_model.proofs.ForceLemmas.{IsInForce-grows, at_place}
use Rattle.geo_model.proofs.PriceLemmas.{plan_price-grows, network_stations}
use Rattle.geo_model.proofs.PlanLemmas.{IsWithin-with, IsWithin-without, IsWithin-none, IsWithin-all, IsWithin-length}
use Rattle.cut_pool.proofs.Covers.{meeting_plan-satisfies}
use Rattle.pivot_chain.proofs.Verdicts.{refuted_fails}
use Rattle.bound_log.specs.declared.bound.Bound.{Bound}
use Rattle.bound_log.specs.declared.bound.Bound.TheVariants.{NoPlan, AtLeast}
use Rattle.bound_log.specs.Bound.{lesser, IsAtMost}
use Rattle.bound_log.specs.CutText.{CutTextOf, displaced_by}
use Rattle.bound_log.specs.DualText.{cover_at, weighed_text}
use Rattle.bound_log.specs.LogTree.{root_of, with_chosen, without_chosen, IsAllowed, IsLineShareAt, leaf_bound_for, bound_for, HasBoundFor, HasBound}
use Rattle.bound_log.specs.Sound.{IsLowerBoundFor, IsLowerBound}
use Rattle.bound_log.specs.declared.log_leaf.LogLeaf.TheVariants.{Cost, Pivot, Cut, Dual}
use Rattle.bound_log.specs.Tree.{Tree, fork, tip}
use Rattle.bound_log.proofs.AllowedLemmas.{cut_broken, dual_at, pivot_refuted, split_open}

-- Why the bound of a log is a lower bound.

-- the lesser of two bounds is at most a price that the first is at most
pub IsAtMost-lesser_left : (a b : Bound) (price : ℕ) → IsAtMost a price → IsAtMost (lesser a b) price
IsAtMost-lesser_left NoPlan b price below = absurd below
IsAtMost-lesser_left (AtLeast x) NoPlan price below = below
IsAtMost-lesser_left (AtLeast x) (AtLeast y) price below = omega arith

-- .. or the second
pub IsAtMost-lesser_right : (a b : Bound) (price : ℕ) → IsAtMost b price → IsAtMost (lesser a b) price
IsAtMost-lesser_right NoPlan b price below = below
IsAtMost-lesser_right (AtLeast x) NoPlan price below = absurd below
IsAtMost-lesser_right (AtLeast x) (AtLeast y) price below = omega arith

-- an entry of a list at a place within it
entry_at : (plan : List Bool) (i : ℕ) → i < length plan → (slice_get plan i ≡ Some true) ⊎ (slice_get plan i ≡ Some false)
entry_at [] i inside = absurd (omega arith)
entry_at (true ∷ plan) zero inside = inl refl
entry_at (false ∷ plan) zero inside = inr refl
entry_at (x ∷ plan) (suc i) inside = let later : i < length plan = omega arith in entry_at plan i later

-- a named limit keeps the bounds of a network's limits
each_named : (network : NetworkOf) (number : ℕ) (limit : LimitOf) → All (IsLimit network) network.limits → slice_get network.limits number ≡ Some limit → IsLimit network limit
each_named network number limit all named = at_place (IsLimit network) network.limits number limit all named

-- a plan that meets the limits meets a named one that is in force
each_named_meets : (network : NetworkOf) (number : ℕ) (limit : LimitOf) (plan : List Bool) → MeetsLimits network plan → slice_get network.limits number ≡ Some limit → IsInForce limit plan → MeetsLimit network plan limit
each_named_meets network number limit plan all named =
    at_place (λ l. IsInForce l plan → MeetsLimit network plan l) network.limits number limit all named

-- what breaks a limit under a plan breaks it under each smaller one, so that isn't met
pub broken_fails : (network : NetworkOf) (plan upper : List Bool) (limit : LimitOf) (x : Displaced) → IsNetwork network → IsLimit network limit → IsWithin plan upper →
    Breaks network upper limit x → MeetsLimit network plan limit → ⊥
broken_fails network plan upper limit x bounds kept within breaks meets =
    clash (limit.alpha *ℤ energy network.candidates upper x) (load limit.squares x) breaks
    (MeetsLimit-grows network limit plan upper bounds.each_candidate kept.bounded.alpha_low within meets x)
  where
    clash : (p q : ℤ) → p <ℤ q → q ≤ℤ p → ⊥
    clash p q h g = omega (arith, ints)

-- a plan of the node that meets the limits satisfies the covering inequality of a share that may be named there
share_satisfied : (network : NetworkOf) (node : Node) (share : ℕ × CutTextOf) (plan : List Bool) → IsNetwork network → IsLineShareAt network node share → IsWithin node.inside plan → MeetsLimits network plan → Satisfies (cover_at network share.1 (slice_get network.limits share.1.limit)) plan
share_satisfied network node share plan bounds by above meets =
    let limit : LimitOf = by.limit in
    let kept : IsLimit network limit = each_named network share.1.limit limit bounds.each_limit by.named in
    let met : MeetsLimit network plan limit =
    each_named_meets network share.1.limit limit plan meets by.named (IsInForce-grows limit node.inside plan above by.owned) in
    subst (λ found. Satisfies (cover_at network share.1 found) plan) (sym by.named) (meeting_plan-satisfies network limit plan (displaced_by share.1.pairs) bounds kept met)

shares_satisfied : (network : NetworkOf) (node : Node) (shares : List (ℕ × CutTextOf)) (plan : List Bool) → IsNetwork network → All (IsLineShareAt network node) shares → IsWithin node.inside plan → MeetsLimits network plan →
    All (λ share. Satisfies share.cover plan) (map (weighed_text network) shares)
shares_satisfied network node [] plan bounds each above meets = All-nil (λ (share : WeighedCover). Satisfies share.cover plan)
shares_satisfied network node (share ∷ shares) plan bounds each above meets =
    All-cons (λ (s : WeighedCover). Satisfies s.cover plan) (weighed_text network share) (map (weighed_text network) shares)
    (share_satisfied network node share plan bounds (All-head (IsLineShareAt network node) share shares each) above meets)
    (shares_satisfied network node shares plan bounds (All-tail (IsLineShareAt network node) share shares each) above meets)

-- each plan between the inner and the upper plan of a node that meets the limits costs at least the bound
pub bound_for-below : (prices : PricesOf) (network : NetworkOf) (node : Node) (tree : Tree) → HasStationPrices prices → IsNetwork network → IsAllowed network node tree → (plan : List Bool) → IsWithin node.inside plan → IsWithin plan node.upper → MeetsLimits network plan → IsAtMost (bound_for prices network node tree) (plan_price prices plan)
unfolding leaf_bound_for
bound_for-below prices network node (tip Cost) stations bounds allowed plan above below meets = plan_price-grows prices node.inside plan above
bound_for-below prices network node (tip (Pivot number)) stations bounds allowed plan above below meets =
    let by = pivot_refuted network node number allowed in
    let limit : LimitOf = by.limit in
    let kept : IsLimit network limit = each_named network number limit bounds.each_limit by.named in
    let met : MeetsLimit network plan limit =
    each_named_meets network number limit plan meets by.named (IsInForce-grows limit node.inside plan above by.owned) in
    absurd (refuted_fails network plan node.upper limit bounds kept below by.refuted met)
bound_for-below prices network node (tip (Cut cut)) stations bounds allowed plan above below meets =
    let by = cut_broken network node cut allowed in
    let limit : LimitOf = by.limit in
    let kept : IsLimit network limit = each_named network cut.limit limit bounds.each_limit by.named in
    let met : MeetsLimit network plan limit =
    each_named_meets network cut.limit limit plan meets by.named (IsInForce-grows limit node.inside plan above by.owned) in
    absurd (broken_fails network plan node.upper limit (displaced_by cut.pairs) bounds kept below by.breaks met)
bound_for-below prices network node (tip (Dual divisor shares)) stations bounds allowed plan above below meets =
    let here = dual_at network node divisor shares allowed in
    let positive : 1 ≤ divisor = here.divides.low in
    dual_bound-below prices divisor (map (weighed_text network) shares) node plan (omega (arith, positive)) stations above below
    (shares_satisfied network node shares plan bounds here.each above meets)
bound_for-below prices network node (fork candidate with_it without_it) stations bounds allowed plan above below meets =
    let inside : candidate < length plan = omega (arith, IsWithin-length plan node.upper below, slice_get_within node.upper candidate true (split_open network node candidate allowed.0).in_upper) in
    elim (entry_at plan candidate inside) [
      | inl has ↦ IsAtMost-lesser_left (bound_for prices network (with_chosen node candidate) with_it) (bound_for prices network (without_chosen node candidate) without_it) (plan_price prices plan)
          (bound_for-below prices network (with_chosen node candidate) with_it stations bounds allowed.1 plan (IsWithin-with node.inside plan candidate above has) below meets)
      | inr lacks ↦ IsAtMost-lesser_right (bound_for prices network (with_chosen node candidate) with_it) (bound_for prices network (without_chosen node candidate) without_it) (plan_price prices plan)
          (bound_for-below prices network (without_chosen node candidate) without_it stations bounds allowed.2 plan above (IsWithin-without plan node.upper candidate below lacks) meets)
    ]

-- the bound of a tree that is allowed at the root is a lower bound, under any prices
pub allowed-below : (prices : PricesOf) (network : NetworkOf) (tree : Tree) (bound : Bound) → HasStationPrices prices → IsNetwork network → IsAllowed network (root_of network) tree → bound ≡ bound_for prices network (root_of network) tree → IsLowerBoundFor prices network bound
allowed-below prices network tree bound stations bounds allowed least = λ plan long meets.
    let below : IsAtMost (bound_for prices network (root_of network) tree) (plan_price prices plan) =
    bound_for-below prices network (root_of network) tree stations bounds allowed plan
    (subst (λ (n : ℕ). IsWithin (replicate n false) plan) long (IsWithin-none plan))
    (subst (λ (n : ℕ). IsWithin plan (replicate n true)) long (IsWithin-all plan)) meets in
    subst (λ (b : Bound). IsAtMost b (plan_price prices plan)) (sym least) below

-- .. so that of a log is
pub HasBoundFor-below : (prices : PricesOf) (network : NetworkOf) (text : List ℕ) (bound : Bound) → HasStationPrices prices → IsNetwork network → HasBoundFor prices network text bound → IsLowerBoundFor prices network bound
HasBoundFor-below prices network text bound stations bounds log = allowed-below prices network log.tree bound stations bounds log.log.allowed log.least

-- .. under those of the network
pub HasBound-below : (network : NetworkOf) (text : List ℕ) (bound : Bound) → IsNetwork network → HasBound network text bound → IsLowerBound network bound
HasBound-below network text bound bounds log = HasBoundFor-below (prices_of network) network text bound (network_stations network bounds) bounds log
