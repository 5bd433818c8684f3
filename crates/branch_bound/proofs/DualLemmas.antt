use Rattle.std.proofs.Common.{◌≡◌, ◌<◌, ◌≤◌, ◌^◌, ℕ, List, [], ◌∷◌, All, length, map, get_or, refl, ap, ap₂, sym, ◌∙◌, subst}
use Rattle.std.proofs.lemmas.Option.{slice_get_within}
use Rattle.std.proofs.lemmas.List.Elements.{All-head, All-tail}
use Rattle.whole_algebra.specs.Matrices.{at}
use Rattle.geo_model.specs.Cover.{CoverOf}
use Rattle.geo_model.specs.Dual.{WeighedCover, dual_bound}
use Rattle.geo_model.specs.Network.{NetworkOf, IsNetwork, IsLimit}
use Rattle.geo_model.specs.Prices.{prices_of}
use Rattle.geo_model.specs.declared.plan.Node.{Node}
use Rattle.cut_pool.specs.Cut.{CutOf, cover}
use Rattle.cut_pool.specs.declared.share.Share.{Share}
use Rattle.pivot_chain.proofs.CertifiedLemmas.{limit_named}
use Rattle.dual_bound.specs.Shares.{AreShares, IsShare, IsSmallCover, cover_or_none, weighed, weighed_covers}
use Rattle.dual_ascent.specs.Duals.{IsShareWithin, IsDualWithin}
use Rattle.dual_ascent.specs.declared.dual.Dual.{Dual as AscentDual}
use Rattle.bound_log.specs.declared.bound.Bound.TheVariants.{AtLeast}
use Rattle.bound_log.specs.DualText.{texts_of_shares, text_of_share, weighed_text}
use Rattle.bound_log.specs.LogTree.{leaf_bound_for}
use Rattle.bound_log.specs.PoolShares.{IsPoolShareAt}
use Rattle.bound_log.proofs.PoolLemmas.{dual_line_allowed, share_covers}
use Rattle.bound_log.proofs.SoundLemmas.{at_place}
use Rattle.idle_splits.proofs.Unit.{small_cover}
use Rattle.branch_bound.specs.Cuts.{IsCutFor, ArePoolFor, IsDualWritable}
use Rattle.branch_bound.specs.Explored.{CutsOff}
use Rattle.branch_bound.specs.Found.{IsPast}
use Rattle.branch_bound.specs.declared.best.Best.{Best}

-- Dual bounds of shares of a search's cuts.

all_then : {X : Type 0} (P Q : X → Type 0) (xs : List X) → ((x : X) → P x → Q x) → All P xs → All Q xs
all_then P Q xs then all = λ k d inside. then (get_or xs k d) (all k d inside)

-- the limits of a pool's cuts are in range
pub limits_in_range : (network : NetworkOf) (pool : List CutOf) → ArePoolFor network pool → All (λ cut. cut.limit < length network.limits) pool
limits_in_range network pool all = all_then (IsCutFor network) (λ cut. cut.limit < length network.limits) pool (λ cut is. is.in_range) all

-- a share that was found may be named in a line
may_be_named : (network : NetworkOf) (node : Node) (pool : List CutOf) (share : Share) → ArePoolFor network pool → IsShareWithin network node pool share → IsPoolShareAt network node pool share
may_be_named network node pool share all by =
    let is : IsCutFor network by.named.cut = at_place (IsCutFor network) pool share.cut by.named.cut all by.named.among in
    record {
      multiplier = record { low = by.low; high = by.high };
      cut = by.named.cut;
      named = by.named.among;
      long = is.places;
      narrow = is.narrow;
      limit = by.named.allowed.limit;
      limited = by.named.allowed.named;
      owned = by.named.allowed.in_force;
    }

-- the numbers of a cut of a network are small
small_cut : (network : NetworkOf) (cut : CutOf) → IsNetwork network → IsCutFor network cut → IsSmallCover (length network.candidates) (cover cut)
small_cut network cut bounds is =
    let named = limit_named network.limits cut.limit is.in_range in
    let kept : IsLimit network named.0 = at_place (IsLimit network) network.limits cut.limit named.0 bounds.each_limit named.1 in
    subst (λ (c : CoverOf). IsSmallCover (length network.candidates) c) (sym (is.exact.covers named.0 named.1)) (small_cover network named.0 (at cut.x) kept is.narrow)

is_share : (network : NetworkOf) (node : Node) (pool : List CutOf) (share : Share) → IsNetwork network → ArePoolFor network pool → IsShareWithin network node pool share →
    IsShare (length network.candidates) pool share
is_share network node pool share bounds all by = record {
  low = by.low;
  high = by.high;
  named = slice_get_within pool share.cut by.named.cut by.named.among;
  small = λ cut named. small_cut network cut bounds (at_place (IsCutFor network) pool share.cut cut all named);
}

-- what a dual bound asks of shares that were found
pub are_shares : (network : NetworkOf) (node : Node) (pool : List CutOf) (dual : AscentDual) → IsNetwork network → ArePoolFor network pool → IsDualWithin network node pool dual →
    AreShares (length network.candidates) pool dual.d dual.shares.items
are_shares network node pool dual bounds all is = record {
  low = is.divisor_low;
  high = is.divisor_high;
  few = is.few;
  each = all_then (IsShareWithin network node pool) (IsShare (length network.candidates) pool) dual.shares.items (λ share by. is_share network node pool share bounds all by) is.each;
}

-- the shares as a line spells them have the covering inequalities of their cuts
weighed_same : (network : NetworkOf) (node : Node) (pool : List CutOf) (shares : List Share) → ArePoolFor network pool → All (IsShareWithin network node pool) shares →
    map (weighed_text network) (texts_of_shares pool shares) ≡ weighed_covers pool shares
weighed_same network node pool [] all each = refl
weighed_same network node pool (share ∷ shares) all each =
    let by : IsShareWithin network node pool share = All-head (IsShareWithin network node pool) share shares each in
    let is : IsCutFor network by.named.cut = at_place (IsCutFor network) pool share.cut by.named.cut all by.named.among in
    let one : weighed_text network (text_of_share pool share) ≡ weighed pool share =
    share_covers network pool share by.named.cut by.named.allowed.limit by.named.among by.named.allowed.named (is.exact.covers by.named.allowed.limit by.named.allowed.named)
    ∙ sym (ap (λ o. let made : WeighedCover = record { multiplier = share.y; cover = cover_or_none o } in made) by.named.among) in
    ap₂ (λ (w : WeighedCover) (ws : List WeighedCover). w ∷ ws) one
    (weighed_same network node pool shares all (All-tail (IsShareWithin network node pool) share shares each))

-- a dual bound past the best plan cuts a node off
pub cuts_off : (network : NetworkOf) (node : Node) (found : Best) (pool : List CutOf) (dual : AscentDual) (price : ℕ) → ArePoolFor network pool → IsDualWithin network node pool dual →
    price ≡ dual_bound (prices_of network) dual.d (weighed_covers pool dual.shares.items) node → IsPast network found price → CutsOff network node found pool dual.d dual.shares.items
unfolding leaf_bound_for
cuts_off network node found pool dual price all is bound past = record {
  price = price;
  named = all_then (IsShareWithin network node pool) (λ share. share.cut < length pool) dual.shares.items (λ share by. slice_get_within pool share.cut by.named.cut by.named.among) is.each;
  allowed = dual_line_allowed network node dual.d dual.shares.items pool (record { low = is.divisor_low; high = is.divisor_high }) is.few
      (all_then (IsShareWithin network node pool) (IsPoolShareAt network node pool) dual.shares.items (λ share by. may_be_named network node pool share all by) is.each);
  bound = ap (λ ws. AtLeast (dual_bound (prices_of network) dual.d ws node)) (weighed_same network node pool dual.shares.items all is.each) ∙ ap AtLeast (sym bound);
  past = past;
}

-- .. and can be written
pub dual_writable : (network : NetworkOf) (node : Node) (pool : List CutOf) (dual : AscentDual) → IsDualWithin network node pool dual → IsDualWritable pool dual
dual_writable network node pool dual is = record {
  divisor = is.divisor_high;
  few = is.few;
  each = all_then (IsShareWithin network node pool) (λ share. (share.y ≤ 2 ^ 44) × (share.cut < length pool)) dual.shares.items
      (λ share by. (by.high, slice_get_within pool share.cut by.named.cut by.named.among)) is.each;
}
