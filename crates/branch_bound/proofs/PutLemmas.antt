-- What the search puts at the end of its log.
use Rattle.std.proofs.Common.{◌≡◌, ◌<◌, ◌≤◌, ◌^◌, ℕ, suc, List, [], ◌∷◌, ◌++◌, All, map, length, arith, refl, sym, ap, ap₂, ◌∙◌, subst, Some, Result, Ok, Err}
use Rattle.std.specs.Prelude.{slice_get, Option}
use Rattle.std.proofs.lemmas.List.Elements.{All-cons, All-head, All-nil, All-tail}
use Rattle.std.proofs.lemmas.List.{length-map, map-append}
use Rattle.std.specs.Result.{OnOk}
use Rattle.geo_base.specs.declared.no_memory.NoMemory.{NoMemory}
use Rattle.geo_model.specs.Network.{NetworkOf, IsNetwork}
use Rattle.cut_pool.specs.Cut.{CutOf}
use Rattle.cut_pool.specs.declared.share.Share.{Share}
use Rattle.bound_log.specs.CutText.{CutTextOf, text_of_cut}
use Rattle.bound_log.specs.DualText.{text_of_share, texts_of_shares, text_or_none}
use Rattle.bound_log.specs.Meanings.{found_share, found_use}
use Rattle.bound_log.specs.NamedText.{named_text}
use Rattle.bound_log.specs.UseText.{use_of, uses_of}
use Rattle.bound_log.specs.declared.log_leaf.LogLeaf.TheVariants as leaf
use Rattle.bound_log.specs.declared.log_line.LogLine.TheVariants.{Leaf}
use Rattle.bound_log.specs.declared.named_line.NamedLine.TheVariants.{Named, UseCut, UseDual}
use Rattle.bound_log.proofs.MoveLemmas.{cut_text_short}
use Rattle.bound_log.proofs.SoundLemmas.{at_place}
use Rattle.bound_log.proofs.UseRuleLemmas.{dual_means, use_dual_read, use_means}
use Rattle.branch_bound.specs.Cuts.{SearchCuts, AreCutsFor, IsCutFor, IsSearchPool, named_cuts, unit_text}
use Rattle.cut_pool.specs.Pool.{IsPool}
use Rattle.idle_splits.specs.Tests.{IdleTestOf, IsTestOf}
use Rattle.idle_splits.specs.declared.unit_share.UnitShare.{UnitShare}
use Rattle.branch_bound.specs.Naming.{IsNaming, text_at}
use Rattle.branch_bound.specs.Spelled.{PutsLine, PutsNames}
use Rattle.branch_bound.proofs.NamingLemmas.{name_small, naming_more}
use Rattle.branch_bound.proofs.PlaceLemmas.{get_front, get_next}
use Rattle.branch_bound.proofs.SpellLemmas.{PutsLine-named, PutsNames-one}

-- ---- a name

-- a cut gets the next name
pub record Grew (before now : SearchCuts) (number : ℕ) : Type 0 where
  pub pool : now.pool ≡ before.pool
  pub idle : now.idle ≡ before.idle
  pub names : now.names ≡ before.names ++ number ∷ []

named_grown : (before now : SearchCuts) (number : ℕ) → Grew before now number → named_cuts now ≡ named_cuts before ++ text_at before.pool number ∷ []
named_grown before now number grew =
    ap₂ (λ (p : List CutOf) (ns : List ℕ). map (text_at p) ns) grew.pool grew.names ∙ map-append (text_at before.pool) before.names (number ∷ [])

pub name_puts : (network : NetworkOf) (before now : SearchCuts) (number : ℕ) (cut : CutOf) (out out_now : List ℕ) → IsNetwork network → AreCutsFor network before →
    slice_get before.pool number ≡ Some cut → Grew before now number → out_now ≡ out ++ named_text (Named (text_of_cut cut)) → PutsNames (named_cuts before) out out_now (named_cuts now)
name_puts network before now number cut out out_now bounds for is grew put =
    let of_network : IsCutFor network cut = at_place (IsCutFor network) before.pool number cut for.pool.each is in
    let limits = bounds.limits in
    let unknowns = bounds.unknowns in
    PutsNames-one (named_cuts before) (named_cuts now) (text_of_cut cut) out out_now
    (named_grown before now number grew ∙ ap (λ o. named_cuts before ++ text_or_none o ∷ []) is) put
    (cut_text_short cut (let inside = of_network.in_range in omega (arith, inside, limits)) (let long = of_network.places in omega (arith, long, unknowns)) of_network.narrow)

pub name_gives : (before now : SearchCuts) (number name : ℕ) → Grew before now number → name ≡ length before.names → slice_get (named_cuts now) name ≡ Some (text_at before.pool number)
name_gives before now number name grew is =
    ap (λ (cuts : List CutTextOf). slice_get cuts name) (named_grown before now number grew)
    ∙ ap (slice_get (named_cuts before ++ text_at before.pool number ∷ [])) (is ∙ sym (length-map before.names (text_at before.pool)))
    ∙ get_next (named_cuts before) (text_at before.pool number)

pub cuts_grew : (network : NetworkOf) (before now : SearchCuts) (number : ℕ) → AreCutsFor network before → number < length before.pool →
    ((name : ℕ) → slice_get before.names name ≡ Some number → ⊥) → Grew before now number → AreCutsFor network now
cuts_grew network before now number for inside absent grew = record {
  pool = subst (λ (p : List CutOf). IsSearchPool network p) (sym grew.pool) for.pool;
  distinct = subst (λ (p : List CutOf). IsPool p) (sym grew.pool) for.distinct;
  idle = subst (λ (test : IdleTestOf). IsTestOf network test) (sym grew.idle) for.idle;
  naming = subst (λ (p : List CutOf). IsNaming p now.names) (sym grew.pool) (naming_more before.pool before.names now.names number for.naming inside absent grew.names);
}

-- ---- the line of a cut

pub puts_use : (network : NetworkOf) (before : List CutTextOf) (now : SearchCuts) (name : ℕ) (cut : CutTextOf) (out out_then out_now : List ℕ) → AreCutsFor network now →
    PutsNames before out out_then (named_cuts now) → slice_get (named_cuts now) name ≡ Some cut → out_now ≡ out_then ++ named_text (UseCut name) →
    PutsLine before out out_now (Leaf (leaf.Cut cut)) (named_cuts now)
puts_use network before now name cut out out_then out_now for names is put =
    let small : name < 65536 = name_small network now name cut for is in
    PutsLine-named before (named_cuts now) out out_then out_now (UseCut name) (Leaf (leaf.Cut cut)) names put (omega (arith, small), tt) (use_means (named_cuts now) name cut is) refl

-- ---- the line of a dual bound

-- what uses stand for stays where more cuts are named
pub uses_grow : (cuts more : List CutTextOf) (uses : List (ℕ × ℕ)) (shares : List (ℕ × CutTextOf)) → map (found_use cuts) uses ≡ map found_share shares →
    map (found_use (cuts ++ more)) uses ≡ map found_share shares
uses_grow cuts more [] [] same = refl
uses_grow cuts more [] (s ∷ ss) same = absurd (cc)
uses_grow cuts more (u ∷ us) [] same = absurd (cc)
uses_grow cuts more (u ∷ us) (s ∷ ss) same =
    let first : found_use cuts u ≡ found_share s = cc in
    let number : u.0 ≡ s.0 = ap (λ (p : ℕ × Option CutTextOf). p.0) first in
    let found : slice_get cuts u.1 ≡ Some s.1 = ap (λ (p : ℕ × Option CutTextOf). p.1) first in
    let rest : map (found_use cuts) us ≡ map found_share ss = cc in
    ap₂ ◌∷◌ (ap₂ (λ (y : ℕ) (o : Option CutTextOf). (y, o)) number (get_front cuts more u.1 s.1 found)) (uses_grow cuts more us ss rest)

-- one more share
pub uses_more : (before now : List CutTextOf) (out out_now : List ℕ) (pool : List CutOf) (made shares : List Share) (share : Share) (name : ℕ) →
    map (found_use before) (uses_of made) ≡ map found_share (texts_of_shares pool shares) → PutsNames before out out_now now → slice_get now name ≡ Some (text_at pool share.cut) →
    map (found_use now) (uses_of (made ++ record { y = share.y; cut = name } ∷ [])) ≡ map found_share (texts_of_shares pool (shares ++ share ∷ []))
uses_more before now out out_now pool made shares share name same puts is =
    let made_use : Share = record { y = share.y; cut = name } in
    ap (map (found_use now)) (map-append use_of made (made_use ∷ []))
    ∙ map-append (found_use now) (uses_of made) (use_of made_use ∷ [])
    ∙ ap₂ ◌++◌ (ap (λ (cuts : List CutTextOf). map (found_use cuts) (uses_of made)) puts.named ∙ uses_grow before puts.cuts (uses_of made) (texts_of_shares pool shares) same)
    (ap (λ o. (share.y, o) ∷ []) is)
    ∙ sym (map-append found_share (texts_of_shares pool shares) (text_of_share pool share ∷ []))
    ∙ ap (map found_share) (sym (map-append (text_of_share pool) shares (share ∷ [])))

-- a name among the uses of a dual bound is a small number
use_small : (network : NetworkOf) (now : SearchCuts) (uses : List Share) (shares : List Share) (pool : List CutOf) → AreCutsFor network now →
    All (λ share. share.y ≤ 2 ^ 44) shares → map (found_use (named_cuts now)) (uses_of uses) ≡ map found_share (texts_of_shares pool shares) →
    All (λ u. (u.y ≤ 2 ^ 44) × (u.cut < 2 ^ 32)) uses
use_small network now [] shares pool for small same = All-nil (λ u. (u.y ≤ 2 ^ 44) × (u.cut < 2 ^ 32))
use_small network now (u ∷ us) [] pool for small same = absurd (cc)
use_small network now (u ∷ us) (s ∷ ss) pool for small same =
    let first : found_use (named_cuts now) (use_of u) ≡ found_share (text_of_share pool s) = cc in
    let number : u.y ≡ s.y = ap (λ (p : ℕ × Option CutTextOf). p.0) first in
    let found : slice_get (named_cuts now) u.cut ≡ Some (text_at pool s.cut) = ap (λ (p : ℕ × Option CutTextOf). p.1) first in
    let rest : map (found_use (named_cuts now)) (uses_of us) ≡ map found_share (texts_of_shares pool ss) = cc in
    let name : u.cut < 65536 = name_small network now u.cut (text_at pool s.cut) for found in
    let weight : s.y ≤ 2 ^ 44 = All-head (λ share. share.y ≤ 2 ^ 44) s ss small in
    All-cons (λ u. (u.y ≤ 2 ^ 44) × (u.cut < 2 ^ 32)) u us (omega (arith, number, weight), omega (arith, name))
    (use_small network now us ss pool for (All-tail (λ share. share.y ≤ 2 ^ 44) s ss small) rest)

same_long : (cuts : List CutTextOf) (uses shares : List Share) (pool : List CutOf) → map (found_use cuts) (uses_of uses) ≡ map found_share (texts_of_shares pool shares) → length uses ≡ length shares
same_long cuts [] [] pool same = refl
same_long cuts [] (s ∷ ss) pool same = absurd (cc)
same_long cuts (u ∷ us) [] pool same = absurd (cc)
same_long cuts (u ∷ us) (s ∷ ss) pool same = let rest : map (found_use cuts) (uses_of us) ≡ map found_share (texts_of_shares pool ss) = cc in ap suc (same_long cuts us ss pool rest)

pub puts_dual : (network : NetworkOf) (before : List CutTextOf) (now : SearchCuts) (d : ℕ) (uses shares : List Share) (pool : List CutOf) (out out_then out_now : List ℕ) → AreCutsFor network now →
    d ≤ 2 ^ 44 → length shares ≤ 64 → All (λ share. share.y ≤ 2 ^ 44) shares → PutsNames before out out_then (named_cuts now) →
    map (found_use (named_cuts now)) (uses_of uses) ≡ map found_share (texts_of_shares pool shares) → out_now ≡ out_then ++ named_text (UseDual d (uses_of uses)) →
    PutsLine before out out_now (Leaf (leaf.Dual d (texts_of_shares pool shares))) (named_cuts now)
puts_dual network before now d uses shares pool out out_then out_now for divisor few small names same put =
    let read = use_dual_read d uses divisor (omega (arith, same_long (named_cuts now) uses shares pool same, few)) (use_small network now uses shares pool for small same) in
    PutsLine-named before (named_cuts now) out out_then out_now (UseDual d (uses_of uses)) (Leaf (leaf.Dual d (texts_of_shares pool shares))) names put read.numbers
    (dual_means (named_cuts now) d (uses_of uses) (texts_of_shares pool shares) same) refl

-- .. of one share of a unit cut
pub puts_unit : (network : NetworkOf) (before : List CutTextOf) (now : SearchCuts) (share : UnitShare) (name : ℕ) (out out_then out_now : List ℕ) → AreCutsFor network now →
    share.d ≤ 2 ^ 44 → share.y ≤ 2 ^ 44 → PutsNames before out out_then (named_cuts now) → slice_get (named_cuts now) name ≡ Some (unit_text share).1 →
    out_now ≡ out_then ++ named_text (UseDual share.d ((share.y, name) ∷ [])) → PutsLine before out out_now (Leaf (leaf.Dual share.d (unit_text share ∷ []))) (named_cuts now)
puts_unit network before now share name out out_then out_now for divisor multiplier names is put =
    let small : name < 65536 = name_small network now name (unit_text share).1 for is in
    let one : Share = record { y = share.y; cut = name } in
    let read = use_dual_read share.d (one ∷ []) divisor (omega arith)
    (All-cons (λ (u : Share). (u.y ≤ 2 ^ 44) × (u.cut < 2 ^ 32)) one [] (multiplier, omega (arith, small)) (All-nil (λ (u : Share). (u.y ≤ 2 ^ 44) × (u.cut < 2 ^ 32)))) in
    PutsLine-named before (named_cuts now) out out_then out_now (UseDual share.d ((share.y, name) ∷ [])) (Leaf (leaf.Dual share.d (unit_text share ∷ []))) names put read.numbers
    (dual_means (named_cuts now) share.d ((share.y, name) ∷ []) (unit_text share ∷ []) (ap (λ (o : Option CutTextOf). (share.y, o) ∷ []) is)) refl

-- ---- where it was put

pub on_ok : (result : Result (Unit {0}) NoMemory) (P Q : Type 0) → (P → Q) → OnOk result P → OnOk result Q
on_ok (Ok done) P Q gives has = gives has
on_ok (Err why) P Q gives has = tt
