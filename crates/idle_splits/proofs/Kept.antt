-- The unit cuts of a network as they are made and kept.
use Rattle.std.proofs.Common.{◌≡◌, ◌↔◌, ◌<◌, ◌≤◌, inl, inr, ℕ, zero, suc, Bool, true, false, Some, Result, Ok, Err, List, [], ◌∷◌, ◌++◌, length, length-append, get_or, refl, sym, ◌∙◌, ap, subst, arith, ℤ, pos, ◌<ℤ◌}
use Rattle.std.specs.Prelude.{slice_get, Any}
use Rattle.std.specs.Result.{OnOk}
use Rattle.std.proofs.lemmas.Bool.{cases_lt, false≢true}
use Rattle.geo_base.specs.declared.no_memory.NoMemory.{NoMemory}
use Rattle.std.proofs.lemmas.Option.{slice_get-get_or, slice_get_within, same_Some}
use Rattle.whole_algebra.specs.Matrices.{at}
use Rattle.geo_model.specs.Cover.{CoverOf}
use Rattle.geo_model.specs.Limit.{LimitOf, SquareOf, is_point_limit, load}
use Rattle.geo_model.specs.Network.{NetworkOf}
use Rattle.geo_model.specs.Row.{unit_at}
use Rattle.pivot_chain.proofs.CertifiedLemmas.{limit_named}
use Rattle.cut_pool.specs.Cut.{CutOf, cover, cover_of, IsCutOf}
use Rattle.cut_pool.specs.Pool.{IsSameCut}
use Rattle.idle_splits.specs.Idle.{IsLoadedAt}
use Rattle.idle_splits.specs.UnitCuts.{unit_move, IsUnitCut, HasCover, HasUnitCut, KeepsUnitCuts, Grows}
use Rattle.idle_splits.specs.declared.unit_cuts.UnitCuts.{UnitCuts}
use Rattle.idle_splits.proofs.Unit.{load-same, cover_of-same, unit_move_at}

-- ---- one cut

-- what the test of a load at a displacement says
abbrev pub Tests : NetworkOf → ℕ → List ℤ → Bool → Type 0
Tests network number x result =
    (limit : LimitOf) → slice_get network.limits number ≡ Some limit → (result ≡ true) ↔ ((is_point_limit limit.kind ≡ true) × (pos 0 <ℤ load limit.squares (at x)))

-- the load of the displacement by 1 in an unknown
unit_load : (squares : List SquareOf) (n u : ℕ) (x : List ℤ) → u < n → x ≡ unit_move n u → load squares (at x) ≡ load squares (unit_at u)
unit_load squares n u x inside is = ap (λ (l : List ℤ). load squares (at l)) is ∙ load-same squares (at (unit_move n u)) (unit_at u) (unit_move_at n u inside)

pub made_unit : (network : NetworkOf) (number unknown : ℕ) (x : List ℤ) (cut : CutOf) (result : Bool) → number < length network.limits → unknown < length network.unknowns
    → x ≡ unit_move (length network.unknowns) unknown → Tests network number x result → result ≡ true → IsCutOf network number x cut → IsUnitCut network unknown cut
made_unit network number unknown x cut result inside place moved tests is_so made =
    let named = limit_named network.limits number inside in
    let limit = named.0 in
    let found = (tests limit named.1).0 is_so in
    record {
      limit = limit;
      loaded = record {
        named = ap (slice_get network.limits) made.named ∙ named.1;
        of_point = found.0;
        inside = place;
        loaded = subst (λ (z : ℤ). pos 0 <ℤ z) (unit_load limit.squares (length network.unknowns) unknown x place moved) found.1;
      };
      moved = made.moved ∙ moved;
      covers = made.covers limit named.1 ∙ ap (λ (l : List ℤ). cover_of network limit (at l)) (sym made.moved);
    }

pub none_loaded : (network : NetworkOf) (number unknown : ℕ) (x : List ℤ) (result : Bool) → x ≡ unit_move (length network.unknowns) unknown → Tests network number x result → result ≡ false
    → (limit : LimitOf) → IsLoadedAt network number unknown limit → ⊥
none_loaded network number unknown x result moved tests not_so limit loaded =
    false≢true (sym not_so ∙ (tests limit loaded.named).1
    (loaded.of_point, subst (λ (z : ℤ). pos 0 <ℤ z) (sym (unit_load limit.squares (length network.unknowns) unknown x loaded.inside moved)) loaded.loaded))

-- the covering inequality of a unit cut
pub unit_cover : (network : NetworkOf) (unknown number : ℕ) (cut : CutOf) → cut.limit ≡ number → IsUnitCut network unknown cut
    → (limit : LimitOf) → IsLoadedAt network number unknown limit → cover cut ≡ cover_of network limit (unit_at unknown)
unit_cover network unknown number cut is unit limit loaded =
    let one : unit.limit ≡ limit = same_Some unit.limit limit (sym unit.loaded.named ∙ ap (slice_get network.limits) is ∙ loaded.named) in
    unit.covers ∙ ap (λ (l : LimitOf). cover_of network l (at cut.x)) one ∙ ap (λ (l : List ℤ). cover_of network limit (at l)) unit.moved
    ∙ cover_of-same network limit (at (unit_move (length network.unknowns) unknown)) (unit_at unknown) (unit_move_at (length network.unknowns) unknown loaded.inside)

-- ---- a cut is kept

each_more : (P : ℕ → CutOf → Type 0) (pool : List CutOf) (unknowns : List ℕ) (cut : CutOf) (unknown : ℕ) → length unknowns ≡ length pool
    → ((k : ℕ) (c : CutOf) → slice_get pool k ≡ Some c → P (get_or unknowns k 0) c) → P unknown cut
    → (k : ℕ) (c : CutOf) → slice_get (pool ++ (cut ∷ [])) k ≡ Some c → P (get_or (unknowns ++ (unknown ∷ [])) k 0) c
each_more P [] [] cut unknown long each here zero c is = subst (λ (d : CutOf). P unknown d) (same_Some cut c is) here
each_more P [] [] cut unknown long each here (suc k) c is = absurd (cc)
each_more P [] (u ∷ us) cut unknown long each here k c is = absurd (omega arith)
each_more P (p ∷ ps) [] cut unknown long each here k c is = absurd (omega arith)
each_more P (p ∷ ps) (u ∷ us) cut unknown long each here zero c is = each zero c is
each_more P (p ∷ ps) (u ∷ us) cut unknown long each here (suc k) c is = each_more P ps us cut unknown (omega arith) (λ i d found. each (suc i) d found) here k c is

has_front : (pool : List CutOf) (cut : CutOf) (wanted : CoverOf) (k : ℕ) (c : CutOf) → k < length pool → get_or pool k c ≡ c → cover c ≡ wanted → HasCover (pool ++ (cut ∷ [])) wanted
has_front [] cut wanted k c inside is covers = absurd (omega arith)
has_front (p ∷ ps) cut wanted zero c inside is covers = (0, c, omega arith, is, covers)
has_front (p ∷ ps) cut wanted (suc k) c inside is covers =
    let later = has_front ps cut wanted k c (omega arith) is covers in
    (suc later.0, later.1, omega (arith, later.2), later.3, later.4)

HasCover-more : (pool : List CutOf) (cut : CutOf) (wanted : CoverOf) → HasCover pool wanted → HasCover (pool ++ (cut ∷ [])) wanted
HasCover-more pool cut wanted has = has_front pool cut wanted has.0 has.1 has.2 has.3 has.4

has_last : (pool : List CutOf) (cut : CutOf) → HasCover (pool ++ (cut ∷ [])) (cover cut)
has_last [] cut = (0, cut, omega arith, refl, refl)
has_last (p ∷ ps) cut = let later = has_last ps cut in (suc later.0, later.1, omega (arith, later.2), later.3, later.4)

pub kept_more : (network : NetworkOf) (before now : UnitCuts) (unknown : ℕ) (cut : CutOf) → KeepsUnitCuts network before → IsUnitCut network unknown cut
    → now.pool ≡ before.pool ++ (cut ∷ []) → now.unknowns.items ≡ before.unknowns.items ++ (unknown ∷ []) → Grows network before now
kept_more network before now unknown cut kept unit pool unknowns = record {
  kept = record {
    long = rw pool (rw unknowns (longer before.unknowns.items before.pool unknown cut kept.long));
    each = λ k c is. subst (λ (us : List ℕ). IsUnitCut network (get_or us k 0) c) (sym unknowns)
        (each_more (IsUnitCut network) before.pool before.unknowns.items cut unknown kept.long kept.each unit k c (ap (λ (l : List CutOf). slice_get l k) (sym pool) ∙ is));
  };
  still = λ wanted has. subst (λ (l : List CutOf). HasCover l wanted) (sym pool) (HasCover-more before.pool cut wanted has);
}
  where
    longer : (us : List ℕ) (ps : List CutOf) (u : ℕ) (p : CutOf) → length us ≡ length ps → length (us ++ (u ∷ [])) ≡ length (ps ++ (p ∷ []))
    longer us ps u p long = omega (arith, length-append us (u ∷ []), length-append ps (p ∷ []))

pub has_kept : (pool now : List CutOf) (cut : CutOf) → now ≡ pool ++ (cut ∷ []) → HasCover now (cover cut)
has_kept pool now cut is = subst (λ (l : List CutOf). HasCover l (cover cut)) (sym is) (has_last pool cut)

-- a cut of the same limit and displacement has the same covering inequality
same_cover : (network : NetworkOf) (unknown other_unknown : ℕ) (other cut : CutOf) → IsUnitCut network other_unknown other → IsUnitCut network unknown cut → IsSameCut other cut → cover other ≡ cover cut
same_cover network unknown other_unknown other cut one two same =
    let limits : one.limit ≡ two.limit = same_Some one.limit two.limit (sym one.loaded.named ∙ ap (slice_get network.limits) same.0 ∙ two.loaded.named) in
    one.covers ∙ ap (λ (l : LimitOf). cover_of network l (at other.x)) limits ∙ ap (λ (l : List ℤ). cover_of network two.limit (at l)) same.1 ∙ sym two.covers

pub has_same : (network : NetworkOf) (cuts : UnitCuts) (unknown : ℕ) (cut : CutOf) (now : List CutOf) → KeepsUnitCuts network cuts → IsUnitCut network unknown cut
    → Any (λ other. IsSameCut other cut) cuts.pool → now ≡ cuts.pool → HasCover now (cover cut)
has_same network cuts unknown cut now kept unit found is =
    let other = kept.each found.0 found.1 (slice_get-get_or cuts.pool found.0 found.1 found.2 ∙ ap Some found.3) in
    subst (λ (l : List CutOf). HasCover l (cover cut)) (sym is)
    (found.0, found.1, found.2, found.3, same_cover network unknown (get_or cuts.unknowns.items found.0 0) found.1 cut other unit found.4)

-- the pool has a unit cut that it has the covering inequality of
pub has_unit : (network : NetworkOf) (number unknown : ℕ) (cut : CutOf) (pool : List CutOf) → cut.limit ≡ number → IsUnitCut network unknown cut → HasCover pool (cover cut) → HasUnitCut network pool number unknown
has_unit network number unknown cut pool is unit has limit loaded =
    subst (λ (c : CoverOf). HasCover pool c) (unit_cover network unknown number cut is unit limit loaded) has

-- ---- what is kept grows

pub Grows-then : (network : NetworkOf) (first second third : UnitCuts) → Grows network first second → Grows network second third → Grows network first third
Grows-then network first second third one two = record { kept = two.kept; still = λ wanted has. two.still wanted (one.still wanted has) }

pub Grows-still : (network : NetworkOf) (cuts : UnitCuts) → KeepsUnitCuts network cuts → Grows network cuts cuts
Grows-still network cuts kept = record { kept = kept; still = λ wanted has. has }

pub HasUnitCut-grows : (network : NetworkOf) (before now : UnitCuts) (number unknown : ℕ) → Grows network before now → HasUnitCut network before.pool number unknown → HasUnitCut network now.pool number unknown
HasUnitCut-grows network before now number unknown grows has limit loaded = grows.still (cover_of network limit (unit_at unknown)) (has limit loaded)

-- unit cuts are those of the network's unknowns, and of its limits
pub no_further_unknown : (network : NetworkOf) (pool : List CutOf) (number size : ℕ) → length network.unknowns ≤ size → ((u : ℕ) → u < size → HasUnitCut network pool number u)
    → (unknown : ℕ) → HasUnitCut network pool number unknown
no_further_unknown network pool number size whole has unknown limit loaded =
    elim (cases_lt unknown size) [
      | inl less ↦ has unknown less limit loaded
      | inr le ↦ absurd (let inside = loaded.inside in omega arith)
    ]

pub no_further_limit : (network : NetworkOf) (pool : List CutOf) (size : ℕ) → length network.limits ≤ size → ((k : ℕ) → k < size → (u : ℕ) → HasUnitCut network pool k u)
    → (number unknown : ℕ) → HasUnitCut network pool number unknown
no_further_limit network pool size whole has number unknown limit loaded =
    elim (cases_lt number size) [
      | inl less ↦ has number less unknown limit loaded
      | inr le ↦ absurd (let inside = slice_get_within network.limits number limit loaded.named in omega arith)
    ]

on_ok : (result : Result (Unit {0}) NoMemory) (P Q : Type 0) → (P → Q) → OnOk result P → OnOk result Q
on_ok (Ok done) P Q gives has = gives has
on_ok (Err why) P Q gives has = tt

pub has_unit_on_ok : (network : NetworkOf) (number unknown : ℕ) (cut : CutOf) (pool : List CutOf) (result : Result (Unit {0}) NoMemory) → cut.limit ≡ number → IsUnitCut network unknown cut
    → OnOk result (HasCover pool (cover cut)) → OnOk result (HasUnitCut network pool number unknown)
has_unit_on_ok network number unknown cut pool result is unit has =
    on_ok result (HasCover pool (cover cut)) (HasUnitCut network pool number unknown) (has_unit network number unknown cut pool is unit) has
