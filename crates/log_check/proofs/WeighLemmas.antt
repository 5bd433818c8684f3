-- The shares of a dual bound, taken off the prices one after another.
use Rattle.std.proofs.Common.{◌≡◌, ◌<◌, ◌≤◌, ◌^◌, ℕ, ◌+◌, ◌*◌, ℤ, pos, ◌-ℤ◌, List, [], ◌∷◌, ◌++◌, length, map, get_or, arith, refl, ap, ◌∙◌, sym, subst, append_assoc, length-append}
use Rattle.std.specs.Prelude.{All, Some, slice_get, sum_by, unsigned_abs}
use Rattle.std.proofs.lemmas.List.{append-nil, length-map, map-append}
use Rattle.std.proofs.lemmas.List.Elements.{All-nil, All-cons, All-head, All-tail}
use Rattle.whole_algebra.specs.Matrices.{at}
use Rattle.cut_pool.specs.Cut.{cover_of}
use Rattle.geo_model.specs.Cover.{CoverOf}
use Rattle.geo_model.specs.Limit.{LimitOf}
use Rattle.geo_model.specs.Dual.{WeighedCover, reduced_price}
use Rattle.geo_model.specs.Network.{NetworkOf}
use Rattle.geo_model.specs.Prices.{prices_of}
use Rattle.bound_log.specs.CutText.{CutTextOf, displaced_by}
use Rattle.bound_log.specs.DualText.{cover_at, weighed_text}
use Rattle.bound_log.proofs.AllowedLemmas.{item_at}
use Rattle.bound_log.specs.LogTree.{IsLineShareAt}
use Rattle.bound_log.specs.Meanings.{AreNames, share_used}
use Rattle.geo_model.specs.declared.plan.Node.{Node}
use Rattle.reduced_sums.specs.Weighed.{AreWeighed}
use Rattle.reduced_sums.proofs.WeighedLemmas.{weighed_start, weighed_more, weighed_small}
use Rattle.log_check.specs.Weighing.{IsShareOf, Weighs}
use Rattle.log_check.proofs.NamingLemmas.{in_range_at}

-- the covering inequality that was written is that of the share's cut
pub cover_written : (network : NetworkOf) (cut : CutTextOf) (limit : ℕ) (x : List ℤ) (written : CoverOf) → cut.limit < length network.limits → limit ≡ cut.limit → ((i : ℕ) → displaced_by cut.pairs i ≡ at x i)
    → ((l : LimitOf) → slice_get network.limits limit ≡ Some l → written ≡ cover_of network l (at x)) → written ≡ cover_at network cut (slice_get network.limits cut.limit)
cover_written network cut limit x written within same moved is =
    let found = item_at network.limits cut.limit within in
    let displaced : displaced_by cut.pairs ≡ at x = λ i k. moved k i in
    is found.item (ap (slice_get network.limits) same ∙ found.named)
    ∙ ap (cover_of network found.item) (sym displaced)
    ∙ sym (ap (cover_at network cut) found.named)

pub weighs_start : (network : NetworkOf) (divisor : ℕ) (shares : List (ℕ × CutTextOf)) (reduced : List ℤ) → All (IsShareOf network) shares → ((i : ℕ) → at reduced i ≡ reduced_price (prices_of network) divisor [] i) → ((i : ℕ) → unsigned_abs (at reduced i) ≤ 2 ^ 74)
    → Weighs network divisor shares shares reduced 0
weighs_start network divisor shares reduced each prices small =
    record { done = []; whole = refl; each = each; weighed = weighed_start (prices_of network) divisor reduced prices small }

pub weighs_next : (network : NetworkOf) (divisor : ℕ) (shares left : List (ℕ × CutTextOf)) (share : ℕ × CutTextOf) (reduced now : List ℤ) (paid part : ℕ) → Weighs network divisor shares (share ∷ left) reduced paid
    → part ≡ share.0 * (weighed_text network share).cover.bound → part ≤ 2 ^ 68
    → ((i : ℕ) → at now i ≡ at reduced i -ℤ pos (share.0 * get_or (weighed_text network share).cover.coefficients i 0)) → ((i : ℕ) → unsigned_abs (at now i) ≤ unsigned_abs (at reduced i) + 2 ^ 68)
    → Weighs network divisor shares left now (paid + part)
weighs_next network divisor shares left share reduced now paid part weighs is few taken near =
    let more = weighed_more (prices_of network) divisor (map (weighed_text network) weighs.done) (weighed_text network share) reduced now paid part weighs.weighed is few taken near in
    record {
      done = weighs.done ++ share ∷ [];
      whole = weighs.whole ∙ sym (append_assoc weighs.done (share ∷ []) left);
      each = All-tail (IsShareOf network) share left weighs.each;
      weighed = subst (λ (l : List WeighedCover). AreWeighed (prices_of network) divisor l now (paid + part)) (sym (map-append (weighed_text network) weighs.done (share ∷ []))) more;
    }

-- what is left of the prices, and what was paid, is small
pub weighs_small : (network : NetworkOf) (divisor : ℕ) (shares left : List (ℕ × CutTextOf)) (reduced : List ℤ) (paid : ℕ) → length shares ≤ 64 → Weighs network divisor shares left reduced paid → ((i : ℕ) → unsigned_abs (at reduced i) ≤ 2 ^ 75) × (paid ≤ 2 ^ 74)
weighs_small network divisor shares left reduced paid few weighs =
    let whole : length shares ≡ length (weighs.done ++ left) = ap length weighs.whole in
    let long : length (map (weighed_text network) weighs.done) ≤ 64 = omega (arith, few, whole, length-append weighs.done left, length-map weighs.done (weighed_text network)) in
    weighed_small (prices_of network) divisor (map (weighed_text network) weighs.done) reduced paid long weighs.weighed

-- all shares are taken off
pub record HasWeighed (network : NetworkOf) (divisor : ℕ) (shares : List (ℕ × CutTextOf)) (reduced : List ℤ) (paid : ℕ) : Type 0 where
  pub sum : paid ≡ sum_by (λ share. share.multiplier * share.cover.bound) (map (weighed_text network) shares)
  pub size : paid ≤ 2 ^ 74
  pub taken : (i : ℕ) → at reduced i ≡ reduced_price (prices_of network) divisor (map (weighed_text network) shares) i
  pub small : (i : ℕ) → unsigned_abs (at reduced i) ≤ 2 ^ 75

pub weighs_end : (network : NetworkOf) (divisor : ℕ) (shares left : List (ℕ × CutTextOf)) (reduced : List ℤ) (paid : ℕ) → length shares ≤ 64 → left ≡ [] → Weighs network divisor shares left reduced paid → HasWeighed network divisor shares reduced paid
weighs_end network divisor shares left reduced paid few none weighs =
    let all : weighs.done ≡ shares = sym (weighs.whole ∙ ap (λ l. weighs.done ++ l) none ∙ append-nil weighs.done) in
    let weighed = subst (λ (l : List (ℕ × CutTextOf)). AreWeighed (prices_of network) divisor (map (weighed_text network) l) reduced paid) all weighs.weighed in
    let small = weighs_small network divisor shares left reduced paid few weighs in
    record { sum = weighed.sum; size = small.1; taken = weighed.taken; small = small.0 }

-- ---- uses of cuts by their numbers

-- the shares that uses stand for, with their numbers in their ranges
pub shares_of_uses : (network : NetworkOf) (cuts : List CutTextOf) (uses : List (ℕ × ℕ)) → AreNames network cuts → All (λ one. (one.0 ≤ 2 ^ 44) × (one.1 < length cuts)) uses → All (IsShareOf network) (map (share_used cuts) uses)
shares_of_uses network cuts [] names each = All-nil (IsShareOf network)
shares_of_uses network cuts (one ∷ uses) names each =
    let here : (one.0 ≤ 2 ^ 44) × (one.1 < length cuts) = All-head (λ (u : ℕ × ℕ). (u.0 ≤ 2 ^ 44) × (u.1 < length cuts)) one uses each in
    let range = in_range_at network cuts one.1 names here.1 in
    All-cons (IsShareOf network) (share_used cuts one) (map (share_used cuts) uses) (record { small = here.0; within = range.within; displacement = range.displacement })
    (shares_of_uses network cuts uses names (All-tail (λ (u : ℕ × ℕ). (u.0 ≤ 2 ^ 44) × (u.1 < length cuts)) one uses each))

-- uses whose shares are allowed have small multipliers
pub small_uses : (network : NetworkOf) (node : Node) (cuts : List CutTextOf) (uses : List (ℕ × ℕ)) → All (λ one. one.1 < length cuts) uses → All (IsLineShareAt network node) (map (share_used cuts) uses) → All (λ one. (one.0 ≤ 2 ^ 44) × (one.1 < length cuts)) uses
small_uses network node cuts [] named each = All-nil (λ (u : ℕ × ℕ). (u.0 ≤ 2 ^ 44) × (u.1 < length cuts))
small_uses network node cuts (one ∷ uses) named each =
    let share = All-head (IsLineShareAt network node) (share_used cuts one) (map (share_used cuts) uses) each in
    All-cons (λ (u : ℕ × ℕ). (u.0 ≤ 2 ^ 44) × (u.1 < length cuts)) one uses (share.multiplier.high, All-head (λ (u : ℕ × ℕ). u.1 < length cuts) one uses named)
    (small_uses network node cuts uses (All-tail (λ (u : ℕ × ℕ). u.1 < length cuts) one uses named) (All-tail (IsLineShareAt network node) (share_used cuts one) (map (share_used cuts) uses) each))
