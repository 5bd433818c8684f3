use Rattle.std.proofs.Common.{◌≡◌, ◌≤◌, ℕ, Bool, List, [], ◌∷◌, Option, Some, None, arith, refl, sym, subst}
use Rattle.std.specs.Prelude.{slice_get, All}
use Rattle.std.proofs.lemmas.List.Elements.{All-nil, All-cons, All-head, All-tail}
use Rattle.whole_algebra.specs.Matrices.{at}
use Rattle.geo_model.specs.Cover.{CoverOf, Satisfies}
use Rattle.geo_model.specs.Dual.{WeighedCover, dual_bound}
use Rattle.geo_model.specs.Energy.{IsWithin}
use Rattle.geo_model.specs.Limit.{IsInForce}
use Rattle.geo_model.specs.Meeting.{MeetsLimit, MeetsLimits}
use Rattle.geo_model.specs.Network.{NetworkOf, IsNetwork, IsLimit}
use Rattle.geo_model.specs.Prices.{price_of, prices_of}
use Rattle.geo_model.specs.declared.plan.Node.{Node}
use Rattle.geo_model.proofs.DualLemmas.{dual_bound-below}
use Rattle.geo_model.proofs.ForceLemmas.{IsInForce-grows, at_place}
use Rattle.geo_model.proofs.PriceLemmas.{network_stations}
use Rattle.cut_pool.specs.Cut.{CutOf}
use Rattle.cut_pool.specs.declared.share.Share.{Share}
use Rattle.cut_pool.proofs.Covers.{meeting_plan-satisfies}
use Rattle.dual_bound.specs.Bound.{IsOwned}
use Rattle.dual_bound.specs.Shares.{cover_or_none, weighed, weighed_covers}

-- Why a dual bound is below the price of each plan of the node that meets the limits.

-- a plan of the node that meets the limits satisfies the cut of a share that may be used there
share_satisfied : (network : NetworkOf) (node : Node) (found : Option CutOf) (plan : List Bool) → IsNetwork network → ((cut : CutOf) → found ≡ Some cut → IsOwned network node cut) → IsWithin node.inside plan → MeetsLimits network plan
    → Satisfies (cover_or_none found) plan
share_satisfied network node None plan bounds owned above meets = omega arith
share_satisfied network node (Some cut) plan bounds owned above meets =
    let by = owned cut refl in
    let kept : IsLimit network by.limit = at_place (IsLimit network) network.limits cut.limit by.limit bounds.each_limit by.named in
    let force : IsInForce by.limit plan = IsInForce-grows by.limit node.inside plan above by.in_force in
    let met : MeetsLimit network plan by.limit = at_place (λ l. IsInForce l plan → MeetsLimit network plan l) network.limits cut.limit by.limit meets by.named force in
    subst (λ (c : CoverOf). Satisfies c plan) (sym by.covers) (meeting_plan-satisfies network by.limit plan (at cut.x) bounds kept met)

shares_satisfied : (network : NetworkOf) (node : Node) (pool : List CutOf) (shares : List Share) (plan : List Bool) → IsNetwork network
    → All (λ share. (cut : CutOf) → slice_get pool share.cut ≡ Some cut → IsOwned network node cut) shares → IsWithin node.inside plan → MeetsLimits network plan
    → All (λ share. Satisfies share.cover plan) (weighed_covers pool shares)
shares_satisfied network node pool [] plan bounds owned above meets = All-nil (λ (share : WeighedCover). Satisfies share.cover plan)
shares_satisfied network node pool (share ∷ rest) plan bounds owned above meets =
    let P = λ (s : Share). (cut : CutOf) → slice_get pool s.cut ≡ Some cut → IsOwned network node cut in
    All-cons (λ (s : WeighedCover). Satisfies s.cover plan) (weighed pool share) (weighed_covers pool rest)
    (share_satisfied network node (slice_get pool share.cut) plan bounds (All-head P share rest owned) above meets)
    (shares_satisfied network node pool rest plan bounds (All-tail P share rest owned) above meets)

pub meeting_plans-cost : (network : NetworkOf) (node : Node) (d : ℕ) (shares : List Share) (pool : List CutOf) (plan : List Bool) → IsNetwork network → 1 ≤ d
    → All (λ share. (cut : CutOf) → slice_get pool share.cut ≡ Some cut → IsOwned network node cut) shares → IsWithin node.inside plan → IsWithin plan node.upper → MeetsLimits network plan
    → dual_bound (prices_of network) d (weighed_covers pool shares) node ≤ price_of network plan
meeting_plans-cost network node d shares pool plan bounds positive owned above below meets =
    dual_bound-below (prices_of network) d (weighed_covers pool shares) node plan (omega arith) (network_stations network bounds) above below
    (shares_satisfied network node pool shares plan bounds owned above meets)
