use Rattle.std.proofs.Common.{◌≡◌, ◌<◌, ℕ, List, [], ◌∷◌, ◌++◌, All, length, length-append, map, arith, refl, sym, ap, ap₂, ◌∙◌, subst, append-nil, append_assoc}
use Rattle.std.proofs.lemmas.List.Elements.{All-head, All-tail}
use Rattle.geo_model.specs.Network.{NetworkOf}
use Rattle.cut_pool.specs.Cut.{CutOf}
use Rattle.cut_pool.specs.Pool.{IsPool}
use Rattle.bound_log.specs.CutText.{CutTextOf}
use Rattle.bound_log.specs.DualText.{text_or_none}
use Rattle.idle_splits.specs.Tests.{IdleTestOf, IsTestOf}
use Rattle.branch_bound.specs.Cuts.{SearchCuts, IsCutFor, AreCutsFor, GotCuts, named_cuts}
use Rattle.branch_bound.specs.Naming.{IsNaming, text_at}
use Rattle.branch_bound.proofs.PlaceLemmas.{get_front, get_inside}
use Rattle.branch_bound.proofs.PointLemmas.{Adds, search_pool-adds}

-- A pool that grows while a search goes on.

-- the cuts that a pool had keep their numbers
text_stays : (pool more : List CutOf) (number : ℕ) → number < length pool → text_at (pool ++ more) number ≡ text_at pool number
text_stays pool more number inside =
    let found = get_inside pool number inside in ap text_or_none (get_front pool more number found.0 found.1 ∙ sym found.1)

texts_stay : (pool more : List CutOf) (numbers : List ℕ) → All (λ number. number < length pool) numbers → map (text_at (pool ++ more)) numbers ≡ map (text_at pool) numbers
texts_stay pool more [] within = refl
texts_stay pool more (number ∷ numbers) within =
    ap₂ (λ (cut : CutTextOf) (cuts : List CutTextOf). cut ∷ cuts)
    (text_stays pool more number (All-head (λ n. n < length pool) number numbers within))
    (texts_stay pool more numbers (All-tail (λ n. n < length pool) number numbers within))

-- so the log has named the same cuts
pub named_same : (network : NetworkOf) (before now : SearchCuts) → AreCutsFor network before → GotCuts network before now → named_cuts now ≡ named_cuts before
named_same network before now for got =
    ap₂ (λ (p : List CutOf) (ns : List ℕ). map (text_at p) ns) got.pool got.names ∙ texts_stay before.pool got.more before.names for.naming.within

-- no cut was got
pub GotCuts-none : (network : NetworkOf) (before now : SearchCuts) → AreCutsFor network before → now ≡ before → GotCuts network before now
GotCuts-none network before now for same = record {
  more = [];
  pool = ap (λ (cs : SearchCuts). cs.pool) same ∙ sym (append-nil before.pool);
  idle = ap (λ (cs : SearchCuts). cs.idle) same;
  names = ap (λ (cs : SearchCuts). cs.names) same;
  cuts = subst (λ (cs : SearchCuts). AreCutsFor network cs) (sym same) for;
}

-- .. or some, and then more
pub GotCuts-then : (network : NetworkOf) (before middle now : SearchCuts) → GotCuts network before middle → GotCuts network middle now → GotCuts network before now
GotCuts-then network before middle now one two = record {
  more = one.more ++ two.more;
  pool = two.pool ∙ ap (λ (p : List CutOf). p ++ two.more) one.pool ∙ append_assoc before.pool one.more two.more;
  idle = two.idle ∙ one.idle;
  names = two.names ∙ one.names;
  cuts = two.cuts;
}

-- .. or some, and nothing after
pub GotCuts-still : (network : NetworkOf) (before middle now : SearchCuts) → now ≡ middle → GotCuts network before middle → GotCuts network before now
GotCuts-still network before middle now same got = subst (λ (cs : SearchCuts). GotCuts network before cs) (sym same) got

within_more : (pool more : List CutOf) (numbers : List ℕ) → All (λ number. number < length pool) numbers → All (λ number. number < length (pool ++ more)) numbers
within_more pool more numbers within = λ k d inside. let below = within k d inside in omega (arith, below, length-append pool more)

-- .. or one
pub GotCuts-one : (network : NetworkOf) (before now : SearchCuts) (cut : CutOf) → AreCutsFor network before → IsCutFor network cut → IsPool now.pool → Adds before.pool now.pool cut →
    now.pool ≡ before.pool ++ cut ∷ [] → length before.pool < 65536 → now.idle ≡ before.idle → now.names ≡ before.names → GotCuts network before now
GotCuts-one network before now cut for is distinct grows added room idle names = record {
  more = cut ∷ [];
  pool = added;
  idle = idle;
  names = names;
  cuts = record {
    pool = search_pool-adds network before.pool now.pool cut for.pool is grows room;
    distinct = distinct;
    idle = subst (λ (test : IdleTestOf). IsTestOf network test) (sym idle) for.idle;
    naming = subst (λ (ns : List ℕ). IsNaming now.pool ns) (sym names)
        (subst (λ (p : List CutOf). IsNaming p before.names) (sym added)
        (record { within = within_more before.pool (cut ∷ []) before.names for.naming.within; once = for.naming.once }));
  };
}
