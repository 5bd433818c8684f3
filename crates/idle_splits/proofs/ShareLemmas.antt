-- When one share of a unit cut shows that a node costs more than a bound.
use Rattle.std.proofs.Common.{◌≡◌, ◌<◌, ◌≤◌, ℕ, Bool, true, false, Option, Some, None, List, [], ◌∷◌, length, get_or, refl, sym, ◌∙◌, ap, subst, arith, IsTrue, ℤ}
use Rattle.std.specs.Prelude.{slice_get, IfNone}
use Rattle.std.specs.Option.{is_some}
use Rattle.std.proofs.lemmas.Bool.{false≢true}
use Rattle.std.proofs.lemmas.List.Elements.{All-nil, All-cons}
use Rattle.std.proofs.lemmas.Option.{slice_get_within, slice_get-get_or, same_Some}
use Rattle.whole_algebra.specs.Matrices.{at}
use Rattle.geo_model.specs.Cover.{CoverOf}
use Rattle.geo_model.specs.Network.{NetworkOf, IsNetwork, IsLimit}
use Rattle.geo_model.specs.Row.{IsNarrow, unit_at}
use Rattle.geo_model.specs.declared.plan.Node.{Node}
use Rattle.geo_model.proofs.ForceLemmas.{at_place}
use Rattle.cut_pool.specs.Cut.{CutOf, cover, cover_of}
use Rattle.dual_bound.specs.Shares.{IsShare, IsSmallCover, AreShares}
use Rattle.bound_log.specs.declared.bound.Bound.TheVariants.{AtLeast}
use Rattle.idle_splits.specs.Idle.{IsLoadedAt, IsDearBy, IsDearByUnit, cover_coefficient}
use Rattle.idle_splits.specs.UnitCuts.{unit_move, KeepsUnitCuts, AreUnitCuts}
use Rattle.idle_splits.specs.UnitShares.{ShowsDear, IsUnitShareOf, IsDearByKept}
use Rattle.idle_splits.specs.declared.unit_cuts.UnitCuts.{UnitCuts}
use Rattle.idle_splits.specs.declared.unit_share.UnitShare.{UnitShare}
use Rattle.idle_splits.proofs.Kept.{unit_cover}
use Rattle.idle_splits.proofs.Unit.{unit_move_at, unit_at-narrow, small_cover}

-- ---- kept cuts are small

narrow_move : (n u : ℕ) (x : List ℤ) → u < n → x ≡ unit_move n u → IsNarrow (at x)
narrow_move n u x inside is i =
    rw is (rw (unit_move_at n u inside i) (unit_at-narrow u i))

pub small_kept : (network : NetworkOf) (cuts : UnitCuts) (k : ℕ) (cut : CutOf) → IsNetwork network → KeepsUnitCuts network cuts → slice_get cuts.pool k ≡ Some cut → IsSmallCover (length network.candidates) (cover cut)
small_kept network cuts k cut bounds kept is =
    let unit = kept.each k cut is in
    let limit : IsLimit network unit.limit = at_place (IsLimit network) network.limits cut.limit unit.limit bounds.each_limit unit.loaded.named in
    subst (λ (c : CoverOf). IsSmallCover (length network.candidates) c) (sym unit.covers)
    (small_cover network unit.limit (at cut.x) limit (narrow_move (length network.unknowns) (get_or cuts.unknowns.items k 0) cut.x unit.loaded.inside unit.moved))

-- what the bound of one share asks
pub one_share : (network : NetworkOf) (cuts : UnitCuts) (k : ℕ) (share : UnitShare) → IsNetwork network → KeepsUnitCuts network cuts → IsUnitShareOf network cuts k share → 1 ≤ share.d → 1 ≤ share.y
    → AreShares (length network.candidates) cuts.pool share.d (record { y = share.y; cut = k } ∷ [])
one_share network cuts k share bounds kept is some_weight some_price =
    let divisor = is.small_divisor in
    let multiplier = is.small_multiplier in
    record {
      low = some_weight;
      high = omega arith;
      few = omega arith;
      each = All-cons (IsShare (length network.candidates) cuts.pool) (record { y = share.y; cut = k }) []
          (record { low = some_price; high = omega arith; named = slice_get_within cuts.pool k is.cut is.kept; small = λ cut found. small_kept network cuts k cut bounds kept found })
          (All-nil (IsShare (length network.candidates) cuts.pool));
    }

-- ---- what a share of a kept cut shows

pub shows_dear : (network : NetworkOf) (node : Node) (cuts : UnitCuts) (k earlier : ℕ) (share : UnitShare) → KeepsUnitCuts network cuts → IsUnitShareOf network cuts k share
    → IsDearByKept network node (AtLeast earlier) cuts k share.candidate → ShowsDear network node (AtLeast earlier) share
shows_dear network node cuts k earlier share kept is dear =
    let unit = kept.each k is.cut is.kept in
    let unknown = get_or cuts.unknowns.items k 0 in
    let one : dear.0 ≡ is.cut = same_Some dear.0 is.cut (sym dear.1 ∙ is.kept) in
    let covers : cover is.cut ≡ cover_of network unit.limit (unit_at unknown) = unit_cover network unknown is.cut.limit is.cut refl unit unit.limit unit.loaded in
    let told : cover is.cut ≡ cover_of network unit.limit (unit_at share.unknown) = covers ∙ ap (λ (u : ℕ). cover_of network unit.limit (unit_at u)) (sym is.unknown) in
    record {
      limit = unit.limit;
      loaded = subst (λ (u : ℕ). IsLoadedAt network share.limit u unit.limit) (sym is.unknown) (subst (λ (l : ℕ). IsLoadedAt network l unknown unit.limit) (sym is.limit) unit.loaded);
      dear = subst (λ (c : CoverOf). IsDearBy network node (AtLeast earlier) c share.candidate) (ap cover one ∙ told) dear.2;
      divisor = is.divisor ∙ ap (λ (c : CoverOf). cover_coefficient c share.candidate) told;
      multiplier = is.multiplier;
      small_divisor = is.small_divisor;
      small_multiplier = is.small_multiplier;
    }

-- where no kept cut shows it, no unit cut does
pub none_shows : (network : NetworkOf) (node : Node) (cuts : UnitCuts) (earlier size : ℕ) → AreUnitCuts network cuts → length cuts.pool ≤ size
    → ((k : ℕ) → k < size → (candidate : ℕ) → IsDearByKept network node (AtLeast earlier) cuts k candidate → ⊥)
    → (number unknown candidate : ℕ) → IsDearByUnit network node (AtLeast earlier) number unknown candidate → ⊥
none_shows network node cuts earlier size are whole none number unknown candidate by =
    let has = are.whole number unknown by.limit by.loaded in
    none has.0 (omega (arith, has.2)) candidate
    (has.1, slice_get-get_or cuts.pool has.0 has.1 has.2 ∙ ap Some has.3, subst (λ (c : CoverOf). IsDearBy network node (AtLeast earlier) c candidate) (sym has.4) by.dear)

-- the candidates at which a kept cut shows it are those of the network
pub no_further_candidate : (network : NetworkOf) (node : Node) (cuts : UnitCuts) (k earlier size : ℕ) → length node.upper ≤ size
    → ((j : ℕ) → j < size → IsDearByKept network node (AtLeast earlier) cuts k j → ⊥) → (candidate : ℕ) → IsDearByKept network node (AtLeast earlier) cuts k candidate → ⊥
no_further_candidate network node cuts k earlier size whole none candidate dear =
    none candidate (let inside = slice_get_within node.upper candidate true dear.2.chosen in omega arith) dear

pub found_none : {X : Type 0} (found : Option X) (is : Bool) (P : Type 0) → is ≡ is_some found → is ≡ false → IfNone found P → P
found_none None is P tells not_so has = has
found_none (Some x) is P tells not_so has = absurd (false≢true (sym not_so ∙ tells))

pub not_told : (told : Bool) (P : Type 0) → (P → IsTrue told) → told ≡ false → P → ⊥
not_told true P gives not_so has = false≢true (sym not_so)
not_told false P gives not_so has = false≢true (gives has)
