-- Shares of cuts of a pool, as a line spells them.
use Rattle.std.proofs.Common.{◌≡◌, ℕ, ◌≤◌, ◌^◌, List, [], ◌∷◌, length, Some, All, arith, ap, sym, ◌∙◌, subst}
use Rattle.std.specs.Prelude.{flat_map, slice_get}
use Rattle.std.proofs.lemmas.List.{length-map}
use Rattle.std.proofs.lemmas.List.Elements.{All-nil, All-cons, All-head, All-tail}
use Rattle.whole_algebra.specs.Matrices.{at}
use Rattle.geo_model.specs.Cover.{CoverOf}
use Rattle.geo_model.specs.Dual.{WeighedCover}
use Rattle.geo_model.specs.Limit.{LimitOf}
use Rattle.geo_model.specs.Network.{NetworkOf}
use Rattle.geo_model.specs.Row.{Displaced}
use Rattle.geo_model.specs.declared.plan.Node.{Node}
use Rattle.cut_pool.specs.Cut.{CutOf, cover, cover_of}
use Rattle.cut_pool.specs.declared.share.Share.{Share}
use Rattle.bound_log.specs.CutText.{CutTextOf, text_of_cut}
use Rattle.bound_log.specs.DualText.{cover_at, share_numbers, text_of_share, text_or_none, texts_of_shares, weighed_text}
use Rattle.bound_log.specs.Grammar.{IsLine}
use Rattle.bound_log.specs.LogText.{line_body}
use Rattle.bound_log.specs.LogTree.{IsLineShareAt, IsWeight}
use Rattle.bound_log.specs.Numbers.{AreShort}
use Rattle.bound_log.specs.PoolShares.{IsSpelled, IsPoolShareAt}
use Rattle.bound_log.specs.Rules.{IsAllowedLine}
use Rattle.bound_log.specs.declared.log_leaf.LogLeaf.TheVariants.{Dual}
use Rattle.bound_log.specs.declared.log_line.LogLine.TheVariants.{Leaf}
use Rattle.bound_log.proofs.AllowedLemmas.{dual_allowed}
use Rattle.bound_log.proofs.GrammarLemmas.{IsLine-body}
use Rattle.bound_log.proofs.ItemLemmas.{short_both}
use Rattle.bound_log.proofs.MoveLemmas.{cut_text_short, moved_alike, moves_displace}

abbrev share_of : ℕ → CutTextOf → ℕ × CutTextOf
share_of multiplier cut = (multiplier, cut)

-- the text of a share is that of its cut
text_is : (pool : List CutOf) (share : Share) (cut : CutOf) → slice_get pool share.cut ≡ Some cut → text_of_share pool share ≡ share_of share.y (text_of_cut cut)
text_is pool share cut named = ap (λ found. share_of share.y (text_or_none found)) named

-- ---- covering inequalities

pub share_covers : (network : NetworkOf) (pool : List CutOf) (share : Share) (cut : CutOf) (limit : LimitOf) → slice_get pool share.cut ≡ Some cut → slice_get network.limits cut.limit ≡ Some limit →
    cover cut ≡ cover_of network limit (at cut.x) → weighed_text network (text_of_share pool share) ≡ record { multiplier = share.y; cover = cover cut }
share_covers network pool share cut limit named limited covers =
    let same : cover_at network (text_of_cut cut) (slice_get network.limits cut.limit) ≡ cover cut =
    ap (cover_at network (text_of_cut cut)) limited ∙ ap (λ (x : Displaced). cover_of network limit x) (sym (moved_alike cut.x)) ∙ sym covers in
    ap (weighed_text network) (text_is pool share cut named) ∙ ap (λ (c : CoverOf). let made : WeighedCover = record { multiplier = share.y; cover = c } in made) same

-- ---- lines that are read again

spelled_short : (pool : List CutOf) (share : Share) → IsSpelled pool share → AreShort (share_numbers (text_of_share pool share))
spelled_short pool share is =
    let high : share.y ≤ 2 ^ 44 = is.multiplier in
    subst (λ (s : ℕ × CutTextOf). AreShort (share_numbers s)) (sym (text_is pool share is.cut is.named))
    (omega (arith, high), cut_text_short is.cut is.limit is.long is.narrow)

texts_short : (pool : List CutOf) (shares : List Share) → All (IsSpelled pool) shares → AreShort (flat_map share_numbers (texts_of_shares pool shares))
texts_short pool [] each = tt
texts_short pool (share ∷ shares) each =
    short_both (share_numbers (text_of_share pool share)) (flat_map share_numbers (texts_of_shares pool shares))
    (spelled_short pool share (All-head (IsSpelled pool) share shares each)) (texts_short pool shares (All-tail (IsSpelled pool) share shares each))

pub dual_line_read : (d : ℕ) (shares : List Share) (pool : List CutOf) → d ≤ 2 ^ 44 → length shares ≤ 64 → All (IsSpelled pool) shares →
    IsLine (line_body (Leaf (Dual d (texts_of_shares pool shares)))) (Leaf (Dual d (texts_of_shares pool shares)))
dual_line_read d shares pool low few each =
    let long : length (texts_of_shares pool shares) ≡ length shares = length-map shares (text_of_share pool) in
    IsLine-body (Leaf (Dual d (texts_of_shares pool shares))) (omega (arith, low), (omega (arith, long, few), texts_short pool shares each))

-- ---- lines that are allowed

named_share : (network : NetworkOf) (node : Node) (pool : List CutOf) (share : Share) → IsPoolShareAt network node pool share → IsLineShareAt network node (text_of_share pool share)
named_share network node pool share may =
    subst (IsLineShareAt network node) (sym (text_is pool share may.cut may.named)) (record {
      multiplier = may.multiplier;
      limit = may.limit;
      named = may.limited;
      displacement = moves_displace (length network.unknowns) may.cut.x may.long may.narrow;
      owned = may.owned;
    })

named_shares : (network : NetworkOf) (node : Node) (pool : List CutOf) (shares : List Share) → All (IsPoolShareAt network node pool) shares → All (IsLineShareAt network node) (texts_of_shares pool shares)
named_shares network node pool [] each = All-nil (IsLineShareAt network node)
named_shares network node pool (share ∷ shares) each =
    All-cons (IsLineShareAt network node) (text_of_share pool share) (texts_of_shares pool shares)
    (named_share network node pool share (All-head (IsPoolShareAt network node pool) share shares each))
    (named_shares network node pool shares (All-tail (IsPoolShareAt network node pool) share shares each))

pub dual_line_allowed : (network : NetworkOf) (node : Node) (d : ℕ) (shares : List Share) (pool : List CutOf) → IsWeight d → length shares ≤ 64 → All (IsPoolShareAt network node pool) shares →
    IsAllowedLine network node (Leaf (Dual d (texts_of_shares pool shares)))
dual_line_allowed network node d shares pool divides few each =
    let long : length (texts_of_shares pool shares) ≡ length shares = length-map shares (text_of_share pool) in
    dual_allowed network node d (texts_of_shares pool shares) (record { divides = divides; few = omega (arith, long, few); each = named_shares network node pool shares each })
