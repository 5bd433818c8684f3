-- The cuts that a search's pool begins with.
use Rattle.std.proofs.Common.{◌≡◌, ◌<◌, ◌≤◌, ◌+◌, ◌^◌, ◌&&◌, ◌⊎◌, inl, inr, ℕ, zero, suc, Bool, true, false, List, [], ◌∷◌, ◌++◌, All, length, length-append, get_or, arith, refl, sym, ap, ◌∙◌, subst, Some, cond, ℤ, pos}
use Rattle.std.specs.Prelude.{slice_get, Any, count_by, int_lt, replicate, unsigned_abs}
use Rattle.std.proofs.lemmas.Bool.{cases_lt}
use Rattle.std.proofs.lemmas.List.{length-replicate, length-set}
use Rattle.std.proofs.lemmas.List.Elements.{All-nil, All-push}
use Rattle.std.proofs.lemmas.List.Sums.{sum_by-cons}
use Rattle.std.proofs.lemmas.Option.{slice_get_within}
use Rattle.whole_algebra.specs.Matrices.{at}
use Rattle.geo_model.specs.Limit.{LimitOf, is_point_limit, load}
use Rattle.geo_model.specs.Network.{NetworkOf, IsNetwork}
use Rattle.geo_model.specs.Row.{IsNarrow, unit_at}
use Rattle.cut_pool.specs.Cut.{CutOf, cover_of}
use Rattle.cut_pool.specs.Pool.{IsSameCut}
use Rattle.idle_splits.specs.Idle.{IsLoadedAt}
use Rattle.idle_splits.specs.UnitCuts.{IsUnitCut, unit_move}
use Rattle.idle_splits.proofs.Unit.{unit_at-narrow, unit_move_at}
use Rattle.bound_log.proofs.AllowedLemmas.{less_where}
use Rattle.branch_bound.specs.Cuts.{IsCutFor, IsSearchPool, HasPoints}
use Rattle.branch_bound.proofs.PlaceLemmas.{same_some}

-- ---- a test that at most one of a list passes is passed at one place

abbrev tally : Bool → ℕ
tally b = cond b 1 0

count_cons : {X : Type 0} (p : X → Bool) (x : X) (xs : List X) → count_by p (x ∷ xs) ≡ tally (p x) + count_by p xs
count_cons p x xs = sum_by-cons (λ y. tally (p y)) x xs

count_some : {X : Type 0} (p : X → Bool) (xs : List X) (i : ℕ) (x : X) → slice_get xs i ≡ Some x → p x ≡ true → 1 ≤ count_by p xs
count_some p [] i x is passes = absurd (cc)
count_some p (z ∷ xs) zero x is passes =
    let here : p z ≡ true = ap p (same_some z x is) ∙ passes in
    let one : tally (p z) ≡ 1 = ap tally here in
    omega (arith, count_cons p z xs, one)
count_some p (z ∷ xs) (suc i) x is passes = omega (arith, count_cons p z xs, count_some p xs i x is passes)

one_place : {X : Type 0} (p : X → Bool) (xs : List X) (i j : ℕ) (x y : X) → count_by p xs ≤ 1 → slice_get xs i ≡ Some x → p x ≡ true → slice_get xs j ≡ Some y → p y ≡ true → i ≡ j
one_place p [] i j x y few is passes also too = absurd (cc)
one_place p (z ∷ xs) zero zero x y few is passes also too = refl
one_place p (z ∷ xs) zero (suc j) x y few is passes also too =
    let here : p z ≡ true = ap p (same_some z x is) ∙ passes in
    let one : tally (p z) ≡ 1 = ap tally here in
    absurd (omega (arith, count_cons p z xs, one, count_some p xs j y also too, few))
one_place p (z ∷ xs) (suc i) zero x y few is passes also too =
    let here : p z ≡ true = ap p (same_some z y also) ∙ too in
    let one : tally (p z) ≡ 1 = ap tally here in
    absurd (omega (arith, count_cons p z xs, one, count_some p xs i x is passes, few))
one_place p (z ∷ xs) (suc i) (suc j) x y few is passes also too =
    ap suc (one_place p xs i j x y (omega (arith, count_cons p z xs, few)) is passes also too)

-- one axis or height limit at most loads an unknown
abbrev loads : ℕ → LimitOf → Bool
loads unknown limit = is_point_limit limit.kind && int_lt (pos 0) (load limit.squares (unit_at unknown))

loads_true : (network : NetworkOf) (number unknown : ℕ) (limit : LimitOf) → IsLoadedAt network number unknown limit → loads unknown limit ≡ true
loads_true network number unknown limit loaded = ap (λ b. b && int_lt (pos 0) (load limit.squares (unit_at unknown))) loaded.of_point ∙ less_where (pos 0) (load limit.squares (unit_at unknown)) loaded.loaded

one_limit : (network : NetworkOf) (number other unknown : ℕ) (limit also : LimitOf) → IsNetwork network → IsLoadedAt network number unknown limit → IsLoadedAt network other unknown also → number ≡ other
one_limit network number other unknown limit also bounds one two =
    one_place (loads unknown) network.limits number other limit also (bounds.one_limit unknown) one.named (loads_true network number unknown limit one) two.named (loads_true network other unknown also two)

-- ---- a cut is added

-- a pool that grew has the cuts that it had
any_more : (P : CutOf → Type 0) (pool : List CutOf) (cut : CutOf) (k : ℕ) (c : CutOf) → k < length pool → get_or pool k c ≡ c → P c → Any P (pool ++ cut ∷ [])
any_more P [] cut k c inside is holds = absurd (omega arith)
any_more P (p ∷ pool) cut zero c inside is holds = (0, c, omega arith, is, holds)
any_more P (p ∷ pool) cut (suc k) c inside is holds =
    let later = any_more P pool cut k c (omega arith) is holds in
    (suc later.0, later.1, omega (arith, later.2), later.3, later.4)

any_last : (P : CutOf → Type 0) (pool : List CutOf) (cut : CutOf) → P cut → Any P (pool ++ cut ∷ [])
any_last P [] cut holds = (0, cut, omega arith, refl, holds)
any_last P (p ∷ pool) cut holds = let later = any_last P pool cut holds in (suc later.0, later.1, omega (arith, later.2), later.3, later.4)

-- a pool to which a cut was added, or that had it
pub record Adds (before now : List CutOf) (cut : CutOf) : Type 0 where
  pub grown : (now ≡ before) ⊎ (now ≡ before ++ cut ∷ [])
  pub has : Any (λ other. IsSameCut other cut) now

pub adds : (before now : List CutOf) (cut : CutOf) (is_new : Bool) → (is_new ≡ false → Any (λ other. IsSameCut other cut) before) → (is_new ≡ true → now ≡ before ++ cut ∷ []) →
    (is_new ≡ false → now ≡ before) → Adds before now cut
adds before now cut true there added kept = record {
  grown = inr (added refl);
  has = subst (λ (cs : List CutOf). Any (λ other. IsSameCut other cut) cs) (sym (added refl)) (any_last (λ other. IsSameCut other cut) before cut (refl, refl));
}
adds before now cut false there added kept = record {
  grown = inl (kept refl);
  has = subst (λ (cs : List CutOf). Any (λ other. IsSameCut other cut) cs) (sym (kept refl)) (there refl);
}

adds_each : (P : CutOf → Type 0) (before now : List CutOf) (cut : CutOf) → Adds before now cut → All P before → P cut → All P now
adds_each P before now cut grows all here = elim grows.grown [
  | inl same ↦ subst (λ (cs : List CutOf). All P cs) (sym same) all
  | inr more ↦ subst (λ (cs : List CutOf). All P cs) (sym more) (All-push P before cut all here)
]

adds_still : (P : CutOf → Type 0) (before now : List CutOf) (cut : CutOf) → Adds before now cut → Any P before → Any P now
adds_still P before now cut grows any = elim grows.grown [
  | inl same ↦ subst (λ (cs : List CutOf). Any P cs) (sym same) any
  | inr more ↦ subst (λ (cs : List CutOf). Any P cs) (sym more) (any_more P before cut any.0 any.1 any.2 any.3 any.4)
]

adds_few : (before now : List CutOf) (cut : CutOf) → Adds before now cut → length now ≤ length before + 1
adds_few before now cut grows = elim grows.grown [
  | inl same ↦ omega (arith, ap length same)
  | inr more ↦ omega (arith, ap length more, length-append before (cut ∷ []))
]

-- a pool of a search grows by a cut of the network
pub search_pool-adds : (network : NetworkOf) (before now : List CutOf) (cut : CutOf) → IsSearchPool network before → IsCutFor network cut → Adds before now cut → length before < 65536 → IsSearchPool network now
search_pool-adds network before now cut pool is grows room = record {
  each = adds_each (IsCutFor network) before now cut grows pool.each is;
  points = λ number unknown limit loaded. adds_still (λ c. (c.limit ≡ number) × (c.x ≡ unit_move (length network.unknowns) unknown)) before now cut grows (pool.points number unknown limit loaded);
  few = omega (arith, adds_few before now cut grows, room);
}

-- ---- the cuts of axis and height limits, by the order of the unknowns

pub unit_move_long : (n u : ℕ) → length (unit_move n u) ≡ n
unit_move_long n u = length-set (replicate n (pos 0)) u (pos 1) ∙ length-replicate n (pos 0)

unit_move_narrow : (n u : ℕ) → u < n → IsNarrow (at (unit_move n u))
unit_move_narrow n u inside i = subst (λ (z : ℤ). unsigned_abs z ≤ 2 ^ 15) (sym (unit_move_at n u inside i)) (unit_at-narrow u i)

-- a unit cut is a cut of the network
pub unit_is_cut : (network : NetworkOf) (unknown : ℕ) (cut : CutOf) → IsUnitCut network unknown cut → IsCutFor network cut
unit_is_cut network unknown cut unit = record {
  in_range = slice_get_within network.limits cut.limit unit.limit unit.loaded.named;
  places = ap length unit.moved ∙ unit_move_long (length network.unknowns) unknown;
  narrow = subst (λ (y : List ℤ). IsNarrow (at y)) (sym unit.moved) (unit_move_narrow (length network.unknowns) unknown unit.loaded.inside);
  exact = record {
    named = refl;
    moved = refl;
    covers = λ l named. unit.covers ∙ ap (λ (m : LimitOf). cover_of network m (at cut.x)) (same_some unit.limit l (sym unit.loaded.named ∙ named));
  };
}

-- at first there is none
pub points-start : (network : NetworkOf) (pool : List CutOf) → pool ≡ [] → HasPoints network pool 0
points-start network pool none = subst (λ (cs : List CutOf). HasPoints network cs 0) (sym none) (record {
  each = All-nil (IsCutFor network);
  points = λ number unknown limit below loaded. absurd (omega (arith, below));
  few = omega arith;
})

-- an unknown without such a limit
pub points-none : (network : NetworkOf) (pool : List CutOf) (unknown : ℕ) → HasPoints network pool unknown → ((number : ℕ) (limit : LimitOf) → IsLoadedAt network number unknown limit → ⊥) →
    HasPoints network pool (unknown + 1)
points-none network pool unknown has none = record {
  each = has.each;
  points = λ number at_unknown limit below loaded.
      elim (cases_lt at_unknown unknown) [
        | inl less ↦ has.points number at_unknown limit less loaded
        | inr le ↦ let here : at_unknown ≡ unknown = omega (arith, le, below) in absurd (none number limit (subst (λ u. IsLoadedAt network number u limit) here loaded))
      ];
  few = omega (arith, has.few);
}

-- .. and with one
pub points-more : (network : NetworkOf) (before now : List CutOf) (unknown : ℕ) (cut : CutOf) → IsNetwork network → HasPoints network before unknown → IsUnitCut network unknown cut → Adds before now cut →
    HasPoints network now (unknown + 1)
points-more network before now unknown cut bounds has unit grows = record {
  each = adds_each (IsCutFor network) before now cut grows has.each (unit_is_cut network unknown cut unit);
  points = λ number at_unknown limit below loaded.
      elim (cases_lt at_unknown unknown) [
        | inl less ↦ adds_still (λ c. (c.limit ≡ number) × (c.x ≡ unit_move (length network.unknowns) at_unknown)) before now cut grows (has.points number at_unknown limit less loaded)
        | inr le ↦
            let here : at_unknown ≡ unknown = omega (arith, le, below) in
            let one : number ≡ cut.limit = one_limit network number cut.limit unknown limit unit.limit bounds (subst (λ u. IsLoadedAt network number u limit) here loaded) unit.loaded in
            let moved : cut.x ≡ unit_move (length network.unknowns) at_unknown = unit.moved ∙ ap (unit_move (length network.unknowns)) (sym here) in
            (grows.has.0, grows.has.1, grows.has.2, grows.has.3, (grows.has.4.0 ∙ sym one, grows.has.4.1 ∙ moved))
      ];
  few = omega (arith, has.few, adds_few before now cut grows);
}

-- all unknowns are passed
pub points-all : (network : NetworkOf) (pool : List CutOf) (size : ℕ) → IsNetwork network → size ≡ length network.unknowns → HasPoints network pool size → IsSearchPool network pool
points-all network pool size bounds whole has = record {
  each = has.each;
  points = λ number unknown limit loaded. has.points number unknown limit (omega (arith, loaded.inside, whole)) loaded;
  few = let fits = bounds.unknowns in omega (arith, has.few, whole, fits);
}
