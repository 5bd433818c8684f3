use Rattle.std.proofs.Common.{◌≡◌, ◌==◌, if◌then◌else◌, false, eq-eqb, eqb-true, ◌<◌, ◌+◌, ℕ, zero, suc, ltb, ◌&&◌, Bool, true, List, [], ◌∷◌, length, replicate, arith, refl, ap, ap₂, sym, ◌∙◌, Some, None}
use Rattle.std.specs.Prelude.{slice_get, slice_set, nat_le, ℤ, pos, Option, IfSome, IsNone}
use Rattle.std.proofs.lemmas.Bool.{le-leb, lt-ltb}
use Rattle.std.proofs.lemmas.List.Elements.{All-cons, All-nil}
use Rattle.geo_model.specs.Cover.{CoverOf}
use Rattle.geo_model.specs.Dual.{WeighedCover, dual_bound}
use Rattle.geo_model.specs.Limit.{LimitOf, IsInForce}
use Rattle.geo_model.specs.Network.{NetworkOf, IsNetwork, IsLimit}
use Rattle.geo_model.specs.Prices.{prices_of, price_of}
use Rattle.geo_model.specs.Row.{unit_at}
use Rattle.geo_model.specs.declared.plan.Node.{Node}
use Rattle.cut_pool.specs.Cut.{CutOf, cover_of}
use Rattle.bound_log.specs.declared.bound.Bound.{Bound}
use Rattle.bound_log.specs.declared.bound.Bound.TheVariants.{NoPlan, AtLeast}
use Rattle.bound_log.specs.declared.log_leaf.LogLeaf.TheVariants.{Dual}
use Rattle.bound_log.specs.declared.log_line.LogLine.TheVariants.{Leaf}
use Rattle.bound_log.specs.CutText.{CutTextOf, moves_from, displaced_by}
use Rattle.bound_log.specs.DualText.{cover_at, text_or_none}
use Rattle.bound_log.specs.LogTree.{IsNodeRefutedBy, IsLineShareAt, leaf_bound, leaf_bound_for}
use Rattle.bound_log.specs.Rules.{IsAllowedLine, is_displacement}
use Rattle.bound_log.proofs.AllowedLemmas.{dual_allowed}
use Rattle.bound_log.proofs.SoundLemmas.{at_place}
use Rattle.idle_splits.specs.Idle.{IsAbove, IsDearByUnit, IsIdle, refuted, dear, dear_by_unit, bound_by}
use Rattle.idle_splits.specs.UnitCuts.{unit_move}
use Rattle.idle_splits.specs.UnitShares.{ShowsDear}
use Rattle.idle_splits.specs.declared.unit_share.UnitShare.{UnitShare}
use Rattle.idle_splits.proofs.Unit.{cover_of-same}
use Rattle.branch_bound.specs.Cuts.{IsSearchPool, IsUnitWritable, unit_text}
use Rattle.branch_bound.specs.Naming.{text_at}
use Rattle.branch_bound.specs.Found.{IsCovered, IsPast, best_bound}
use Rattle.branch_bound.specs.declared.best.Best.{Best}
use Rattle.branch_bound.specs.declared.best.Best.TheVariants as best

-- The dual bound of one unit cut as a leaf, and that a split is not idle.

-- ---- its text

nothing_moves : (n k : ℕ) → moves_from k (replicate n (pos 0)) ≡ []
nothing_moves zero k = refl
nothing_moves (suc n) k = nothing_moves n (suc k)

moves_unit : (n i k : ℕ) → i < n → moves_from k (slice_set (replicate n (pos 0)) i (pos 1)) ≡ (k + i, pos 1) ∷ []
moves_unit zero i k below = absurd (omega arith)
moves_unit (suc n) zero k below =
    let same : k ≡ k + zero = omega arith in
    ap₂ (λ (a : ℕ) (rest : List (ℕ × ℤ)). (a, pos 1) ∷ rest) same (nothing_moves n (suc k))
moves_unit (suc n) (suc i) k below =
    let same : suc k + i ≡ k + suc i = omega arith in
    moves_unit n i (suc k) (omega arith) ∙ ap (λ (a : ℕ). (a, pos 1) ∷ []) same

-- the cut of a pool that has the limit and the displacement of a share is spelled as the share's
pub unit_text_at : (pool : List CutOf) (number unknowns : ℕ) (cut : CutOf) (share : UnitShare) → slice_get pool number ≡ Some cut → cut.limit ≡ share.limit →
    cut.x ≡ unit_move unknowns share.unknown → share.unknown < unknowns → text_at pool number ≡ (unit_text share).1
unit_text_at pool number unknowns cut share is limit moved inside =
    ap text_or_none is
    ∙ ap₂ (λ (l : ℕ) (pairs : List (ℕ × ℤ)). let made : CutTextOf = record { limit = l; pairs = pairs } in made) limit
    (ap (moves_from 0) moved ∙ moves_unit unknowns share.unknown 0 inside ∙ ap (λ (a : ℕ). (a, pos 1) ∷ []) (nothing_more share.unknown))
  where
    nothing_more : (n : ℕ) → 0 + n ≡ n
    nothing_more n = omega arith

-- a share that was found can be written
pub unit_writable : (network : NetworkOf) (node : Node) (earlier : Bound) (pool : List CutOf) (share : UnitShare) → IsSearchPool network pool → ShowsDear network node earlier share →
    IsUnitWritable network pool share
unit_writable network node earlier pool share is shows = record {
  inside = shows.loaded.inside;
  there = is.points share.limit share.unknown shows.limit shows.loaded;
  divisor = omega (arith, shows.small_divisor);
  multiplier = omega (arith, shows.small_multiplier);
}

pub if_writable : (network : NetworkOf) (node : Node) (earlier : Bound) (pool : List CutOf) (found : Option UnitShare) → IsSearchPool network pool → IfSome found (ShowsDear network node earlier) →
    IfSome found (IsUnitWritable network pool)
if_writable network node earlier pool None is shows = tt
if_writable network node earlier pool (Some share) is shows = unit_writable network node earlier pool share is shows

-- ---- it is allowed

both : (a b : Bool) → a ≡ true → b ≡ true → (a && b) ≡ true
both a b one two = ap (λ x. x && b) one ∙ two

unit_displacement : (unknowns u : ℕ) → u < unknowns → is_displacement unknowns ((u, pos 1) ∷ []) ≡ true
unit_displacement unknowns u below =
    both (nat_le 1 unknowns) (((nat_le 0 u && ltb u unknowns) && true) && true) (le-leb 1 unknowns (omega arith))
    (both ((nat_le 0 u && ltb u unknowns) && true) true
    (both (nat_le 0 u && ltb u unknowns) true (both (nat_le 0 u) (ltb u unknowns) (le-leb 0 u (omega arith)) (lt-ltb u unknowns below)) refl) refl)

-- a limit without an owner is in force for each plan
unowned_in_force : (limit : LimitOf) (plan : List Bool) → limit.owner ≡ None → IsInForce limit plan
unowned_in_force limit plan unowned = λ o e. absurd (cc)

none_of : (owner : Option ℕ) → IsNone owner → owner ≡ None
none_of None is = refl
none_of (Some k) is = absurd (cc)

pub unit_allowed : (network : NetworkOf) (node : Node) (earlier : Bound) (share : UnitShare) → IsNetwork network → ShowsDear network node earlier share →
    IsAllowedLine network node (Leaf (Dual share.d (unit_text share ∷ [])))
unit_allowed network node earlier share bounds shows =
    let kept : IsLimit network shows.limit = at_place (IsLimit network) network.limits share.limit shows.limit bounds.each_limit shows.loaded.named in
    dual_allowed network node share.d (unit_text share ∷ []) (record {
      divides = record { low = omega (arith, shows.divisor, shows.dear.weighs); high = omega (arith, shows.small_divisor) };
      few = omega arith;
      each = All-cons (IsLineShareAt network node) (unit_text share) [] (record {
        multiplier = record { low = omega (arith, shows.multiplier, shows.dear.priced); high = omega (arith, shows.small_multiplier) };
        limit = shows.limit;
        named = shows.loaded.named;
        displacement = unit_displacement (length network.unknowns) share.unknown shows.loaded.inside;
        owned = unowned_in_force shows.limit node.inside (none_of shows.limit.owner (kept.unowned shows.loaded.of_point));
      }) (All-nil (IsLineShareAt network node));
    })

-- ---- its bound

same_tests : (u i : ℕ) → (u == i) ≡ (i == u)
same_tests u i = by (u == i) (i == u) (λ e. eq-eqb i u (sym (eqb-true u i e))) (λ e. eq-eqb u i (sym (eqb-true i u e)))
  where
    by : (a b : Bool) → (a ≡ true → b ≡ true) → (b ≡ true → a ≡ true) → a ≡ b
    by true b there back = sym (there refl)
    by false true there back = back refl
    by false false there back = refl

unit_alike : (u i : ℕ) → displaced_by ((u, pos 1) ∷ []) i ≡ unit_at u i
unit_alike u i = ap (λ (b : Bool). if b then pos 1 else pos 0) (same_tests u i)

pub unit_bound : (network : NetworkOf) (node : Node) (earlier : Bound) (share : UnitShare) (shows : ShowsDear network node earlier share) →
    leaf_bound network node (Dual share.d (unit_text share ∷ [])) ≡ AtLeast (bound_by network node (cover_of network shows.limit (unit_at share.unknown)) share.candidate)
unfolding leaf_bound_for
unit_bound network node earlier share shows =
    let covers : cover_at network (unit_text share).1 (slice_get network.limits share.limit) ≡ cover_of network shows.limit (unit_at share.unknown) =
    ap (cover_at network (unit_text share).1) shows.loaded.named
    ∙ cover_of-same network shows.limit (displaced_by ((share.unknown, pos 1) ∷ [])) (unit_at share.unknown) (unit_alike share.unknown) in
    ap₂ (λ (d : ℕ) (w : WeighedCover). AtLeast (dual_bound (prices_of network) d (w ∷ []) node)) shows.divisor
    (ap₂ (λ (y : ℕ) (c : CoverOf). let made : WeighedCover = record { multiplier = y; cover = c } in made) shows.multiplier covers)

-- ---- splits that aren't idle

-- a price above that of the best plan is past it
pub above_past : (network : NetworkOf) (found : Best) (price : ℕ) → IsAbove price (best_bound network found) → IsPast network found price
above_past network best.NoPlan price above = absurd above
above_past network (best.Certified plan) price above = omega (arith, above)
above_past network (best.Unsettled plan) price above = above

pub not_idle : (network : NetworkOf) (node : Node) (found : Best) → (IsCovered network found node.inside → ⊥) → ((k : ℕ) → IsNodeRefutedBy network node k → ⊥) →
    ((number unknown candidate : ℕ) → IsDearByUnit network node (best_bound network found) number unknown candidate → ⊥) →
    IsIdle network node (best_bound network found) → ⊥
not_idle network node found uncovered none undear (refuted number by) =
    none number (record { limit = by.limit; named = by.named; owned = unowned_in_force by.limit node.inside by.unowned; refuted = by.refuted })
not_idle network node found uncovered none undear (dear above) = uncovered (above_past network found (price_of network node.inside) above)
not_idle network node found uncovered none undear (dear_by_unit number unknown candidate by) = undear number unknown candidate by

pub no_dear : (network : NetworkOf) (node : Node) (number unknown candidate : ℕ) → IsDearByUnit network node NoPlan number unknown candidate → ⊥
no_dear network node number unknown candidate by = by.dear.above
