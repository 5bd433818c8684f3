-- The cuts that are named, as they are kept: each spells again what its name spelled.
use Rattle.std.proofs.Common.{◌≡◌, ◌==◌, if◌then◌else◌, ℕ, zero, suc, ◌+◌, ◌<◌, ◌≤◌, ◌^◌, ◌&&◌, ltb, Bool, true, false, List, [], ◌∷◌, ◌++◌, length, map, get_or, arith, refl, ap, ap₂, sym, ◌∙◌, subst, inl, inr, eq-eqb}
use Rattle.std.specs.Prelude.{ℤ, pos, negsuc, nat_le, unsigned_abs}
use Rattle.std.proofs.lemmas.Bool.{cases_Bool, eqb-true, false≢true, le-ltb, ltb-true, ltb-false, lt-ltb, ne_eqb}
use Rattle.std.proofs.lemmas.List.{get_or_past, length-append, map-append}
use Rattle.std.proofs.lemmas.List.Elements.{All-push, All-get_or}
use Rattle.whole_algebra.specs.Matrices.{at}
use Rattle.geo_model.specs.Network.{NetworkOf}
use Rattle.geo_model.specs.Row.{IsNarrow}
use Rattle.bound_log.specs.CutText.{CutTextOf, displaced_by, moves_from}
use Rattle.bound_log.specs.Meanings.{AreNames, naming, cut_named, is_cut_in_range, may_name}
use Rattle.bound_log.specs.Rules.{first_unkept, is_displacement, is_move, are_moves}
use Rattle.bound_log.specs.declared.log_kind.LogKind.TheVariants.{Range}
use Rattle.geo_model.specs.declared.plan.Node.{Node}
use Rattle.log_check.specs.FirstFault.{BreaksFirst, KeepsRules}
use Rattle.bound_log.proofs.MoveLemmas.{displaced-moves}
use Rattle.log_check.specs.declared.named_cuts.StoredCut.{StoredCut}
use Rattle.log_check.specs.Naming.{AreNamesKept, IsStored, text_of_stored}
use Rattle.whole_algebra.proofs.ChainLaws.{and_left, and_right}
use Rattle.log_check.proofs.MoveLemmas.{before_moves, moves_one, place_of, size_of}

-- ---- pairs are told by their displacement

no_size : (z : ℤ) → ltb 0 (unsigned_abs z) ≡ false → z ≡ pos 0
no_size (pos zero) none = refl
no_size (pos (suc n)) none = absurd (false≢true (sym none ∙ lt-ltb 0 (suc n) (omega arith)))
no_size (negsuc n) none = absurd (false≢true (sym none ∙ lt-ltb 0 (suc n) (omega arith)))

-- a move of an unknown past the first one is a move from the next one on
past_first : (unknowns first : ℕ) (pair : ℕ × ℤ) → is_move unknowns first pair ≡ true → (pair.0 ≡ first → ⊥) → is_move unknowns (suc first) pair ≡ true
past_first unknowns first pair is other =
    let place = place_of unknowns first pair is in
    let size = size_of unknowns first pair is in
    moves_one unknowns (suc first) pair (omega (arith, place.0, other)) place.1 size.0 size.1

-- the pairs of moves from an unknown on are those of their displacement
pub pairs_again : (unknowns first : ℕ) (pairs : List (ℕ × ℤ)) (x : List ℤ) → are_moves unknowns first pairs ≡ true → unknowns ≤ first + length x → ((i : ℕ) → displaced_by pairs (first + i) ≡ at x i) → moves_from first x ≡ pairs
pairs_again unknowns first [] [] are long same = refl
pairs_again unknowns first (pair ∷ pairs) [] are long same =
    let place = place_of unknowns first pair (and_left (is_move unknowns first pair) (are_moves unknowns (suc pair.0) pairs) are) in
    absurd (omega (arith, place.0, place.1, long))
pairs_again unknowns first [] (v ∷ rest) are long same =
    let here : pos 0 ≡ v = same 0 in
    let still : ltb 0 (unsigned_abs v) ≡ false = ap (λ z. ltb 0 (unsigned_abs z)) (sym here) in
    ap (λ b. if b then (first, v) ∷ moves_from (suc first) rest else moves_from (suc first) rest) still
    ∙ pairs_again unknowns (suc first) [] rest refl (omega (arith, long)) (λ i. same (suc i))
pairs_again unknowns first (pair ∷ pairs) (v ∷ rest) are long same = elim (cases_Bool (pair.0 == first)) [
  | inl is ↦
      let at_first : pair.0 ≡ first = eqb_same pair.0 first is in
      let value : pair.1 ≡ v = sym (ap (λ b. if b then pair.1 else displaced_by pairs first) is) ∙ ap (displaced_by (pair ∷ pairs)) (zero_on first) ∙ same 0 in
      let moves : ltb 0 (unsigned_abs v) ≡ true = ap (λ z. ltb 0 (unsigned_abs z)) (sym value) ∙ lt-ltb 0 (unsigned_abs pair.1) (size_of unknowns first pair head).0 in
      let later : are_moves unknowns (suc first) pairs ≡ true = ap (λ n. are_moves unknowns (suc n) pairs) (sym at_first) ∙ tail in
      ap (λ b. if b then (first, v) ∷ moves_from (suc first) rest else moves_from (suc first) rest) moves
      ∙ ap₂ (λ p ps. p ∷ ps) (ap₂ (λ (n : ℕ) (z : ℤ). (n, z)) (sym at_first) (sym value))
      (pairs_again unknowns (suc first) pairs rest later (omega (arith, long)) (λ i. sym (ap (λ b. if b then pair.1 else displaced_by pairs (suc first + i)) (ne_eqb pair.0 (suc first + i) (λ alike. omega (arith, alike, at_first)))) ∙ next_same i))
  | inr not ↦
      let past : pair.0 ≡ first → ⊥ = λ alike. false≢true (sym not ∙ eq-eqb pair.0 first alike) in
      let all : are_moves unknowns (suc first) (pair ∷ pairs) ≡ true = ap (λ b. b && are_moves unknowns (suc pair.0) pairs) (past_first unknowns first pair head past) ∙ tail in
      let here : v ≡ pos 0 = sym (same 0) ∙ sym (ap (displaced_by (pair ∷ pairs)) (zero_on first)) ∙ before_moves unknowns (suc first) first (pair ∷ pairs) all (omega arith) in
      let still : ltb 0 (unsigned_abs v) ≡ false = ap (λ z. ltb 0 (unsigned_abs z)) here in
      ap (λ b. if b then (first, v) ∷ moves_from (suc first) rest else moves_from (suc first) rest) still
      ∙ pairs_again unknowns (suc first) (pair ∷ pairs) rest all (omega (arith, long)) next_same
]
  where
    head : is_move unknowns first pair ≡ true
    head = and_left (is_move unknowns first pair) (are_moves unknowns (suc pair.0) pairs) are

    tail : are_moves unknowns (suc pair.0) pairs ≡ true
    tail = and_right (is_move unknowns first pair) (are_moves unknowns (suc pair.0) pairs) are

    zero_on : (n : ℕ) → n ≡ n + 0
    zero_on n = omega arith

    eqb_same : (m n : ℕ) → (m == n) ≡ true → m ≡ n
    eqb_same m n is = eqb-true m n is

    next_same : (i : ℕ) → displaced_by (pair ∷ pairs) (suc first + i) ≡ at rest i
    next_same i = ap (displaced_by (pair ∷ pairs)) (omega arith) ∙ same (suc i)

-- ---- a cut that is kept

-- what is kept of a cut spells the cut
pub stored_spells : (unknowns : ℕ) (cut : CutTextOf) (limit : ℕ) (x moves : List ℤ) → unknowns ≤ 64 → length moves ≡ 64 → ((i : ℕ) → at moves i ≡ at x i) → cut.limit ≡ limit → is_displacement unknowns cut.pairs ≡ true → ((i : ℕ) → displaced_by cut.pairs i ≡ at x i) → record { limit = limit; pairs = moves_from 0 moves } ≡ cut
stored_spells unknowns cut limit x moves few long same limited is displaced =
    let made : ℕ → List (ℕ × ℤ) → CutTextOf = λ (n : ℕ) (ps : List (ℕ × ℤ)). record { limit = n; pairs = ps } in
    ap₂ made (sym limited)
    (pairs_again unknowns 0 cut.pairs moves (and_right (nat_le (length cut.pairs) unknowns) (are_moves unknowns 0 cut.pairs) is) (omega (arith, few, long))
    (λ i. ap (displaced_by cut.pairs) (zero_more i) ∙ displaced i ∙ sym (same i)))
  where
    zero_more : (i : ℕ) → 0 + i ≡ i
    zero_more i = omega arith

pub added_spells : (cuts : List StoredCut) (one : StoredCut) (cut : CutTextOf) → text_of_stored one ≡ cut → map text_of_stored (cuts ++ one ∷ []) ≡ map text_of_stored cuts ++ cut ∷ []
added_spells cuts one cut is = map-append text_of_stored cuts (one ∷ []) ∙ ap (λ (c : CutTextOf). map text_of_stored cuts ++ c ∷ []) is

pub kept_narrow : (x moves : List ℤ) → IsNarrow (at x) → ((i : ℕ) → at moves i ≡ at x i) → IsNarrow (at moves)
kept_narrow x moves narrow same i = subst (λ (z : ℤ). unsigned_abs z ≤ 2 ^ 15) (sym (same i)) (narrow i)

pub stored_more : (room more : ℕ) (cuts : List StoredCut) (one : StoredCut) → AreNamesKept room cuts → room ≤ more → length cuts < 65536 → IsStored one → AreNamesKept more (cuts ++ one ∷ [])
stored_more room more cuts one are grown few is = record {
  room = omega (arith, are.room, grown);
  few = omega (arith, few, length-append cuts (one ∷ []));
  each = All-push IsStored cuts one are.each is;
}

-- ---- a cut that is read

abbrev no_text : CutTextOf
no_text = record { limit = 0; pairs = [] }

-- the cut of a number is what is kept at its place
pub text_at : (cuts : List StoredCut) (named : List CutTextOf) (number : ℕ) (one : StoredCut) → map text_of_stored cuts ≡ named → number < length cuts → one ≡ get_or cuts number one → text_of_stored one ≡ cut_named named number
text_at cuts named number one view inside is =
    sym (ap (λ (l : List CutTextOf). get_or l number no_text) (sym view)
    ∙ get_or-mapped cuts number one inside
    ∙ ap text_of_stored (sym is))
  where
    get_or-mapped : (cuts : List StoredCut) (number : ℕ) (one : StoredCut) → number < length cuts → get_or (map text_of_stored cuts) number no_text ≡ text_of_stored (get_or cuts number one)
    get_or-mapped [] number one inside = absurd (omega arith)
    get_or-mapped (cut ∷ cuts) zero one inside = refl
    get_or-mapped (cut ∷ cuts) (suc number) one inside = get_or-mapped cuts number one (omega (arith, inside))

-- what moves no unknown past so many
beyond : (unknowns i : ℕ) (pairs : List (ℕ × ℤ)) (least : ℕ) → are_moves unknowns least pairs ≡ true → unknowns ≤ i → displaced_by pairs i ≡ pos 0
beyond unknowns i [] least are past = refl
beyond unknowns i (pair ∷ pairs) least are past =
    let place = place_of unknowns least pair (and_left (is_move unknowns least pair) (are_moves unknowns (suc pair.0) pairs) are) in
    ap (λ b. if b then pair.1 else displaced_by pairs i) (ne_eqb pair.0 i (λ alike. omega (arith, alike, place.1, past)))
    ∙ beyond unknowns i pairs (suc pair.0) (and_right (is_move unknowns least pair) (are_moves unknowns (suc pair.0) pairs) are) past

-- the displacement that is written is that of the cut
pub written_again : (cut : CutTextOf) (one : StoredCut) (before x : List ℤ) → text_of_stored one ≡ cut → is_displacement (length before) cut.pairs ≡ true → length x ≡ length before → ((i : ℕ) → i < length before → at x i ≡ at one.moves i) → (i : ℕ) → displaced_by cut.pairs i ≡ at x i
written_again cut one before x is displacement long same i = elim (cases_Bool (ltb i (length before))) [
  | inl inside ↦
      ap (λ (c : CutTextOf). displaced_by c.pairs i) (sym is) ∙ displaced-moves one.moves i ∙ sym (same i (ltb-true i (length before) inside))
  | inr past ↦
      let outside : length before ≤ i = ltb-false i (length before) past in
      beyond (length before) i cut.pairs 0 (and_right (nat_le (length cut.pairs) (length before)) (are_moves (length before) 0 cut.pairs) displacement) outside
      ∙ sym (get_or_past x i (pos 0) (omega (arith, outside, long)))
]

-- ---- names in their ranges

-- what the numbers of a cut that is named are
pub record CutInRange (network : NetworkOf) (cut : CutTextOf) : Type 0 where
  pub within : cut.limit < length network.limits
  pub displacement : is_displacement (length network.unknowns) cut.pairs ≡ true

pub in_range_at : (network : NetworkOf) (cuts : List CutTextOf) (number : ℕ) → AreNames network cuts → number < length cuts → CutInRange network (cut_named cuts number)
in_range_at network cuts number names inside =
    let is : is_cut_in_range network (cut_named cuts number) ≡ true = All-get_or (λ cut. is_cut_in_range network cut ≡ true) cuts number no_text inside names.each in
    let cut : CutTextOf = cut_named cuts number in
    record {
      within = ltb-true cut.limit (length network.limits) (and_left (ltb cut.limit (length network.limits)) (is_displacement (length network.unknowns) cut.pairs) is);
      displacement = and_right (ltb cut.limit (length network.limits)) (is_displacement (length network.unknowns) cut.pairs) is;
    }

-- ---- the rule of a name

pub not_full : (count : ℕ) → (65536 ≤ count → ⊥) → count < 65536
not_full count other = elim (cases_Bool (ltb count 65536)) [
  | inl few ↦ ltb-true count 65536 few
  | inr many ↦ absurd (other (ltb-false count 65536 many))
]

pub full_not : (network : NetworkOf) (cuts : List CutTextOf) (cut : CutTextOf) → 65536 ≤ length cuts → may_name network cuts cut ≡ false
full_not network cuts cut full = ap (λ b. b && is_cut_in_range network cut) (le-ltb (length cuts) 65536 full)

never : (a : Bool) → (a && false) ≡ false
never true = refl
never false = refl

pub limit_not : (network : NetworkOf) (cuts : List CutTextOf) (cut : CutTextOf) → length network.limits ≤ cut.limit → may_name network cuts cut ≡ false
limit_not network cuts cut past =
    ap (λ b. ltb (length cuts) 65536 && (b && is_displacement (length network.unknowns) cut.pairs)) (le-ltb cut.limit (length network.limits) past)
    ∙ never (ltb (length cuts) 65536)

-- .. is that of its displacement where the others are kept
pub named_may : (network : NetworkOf) (cuts : List CutTextOf) (cut : CutTextOf) → length cuts < 65536 → cut.limit < length network.limits → may_name network cuts cut ≡ is_displacement (length network.unknowns) cut.pairs
named_may network cuts cut few inside =
    ap (λ b. b && is_cut_in_range network cut) (lt-ltb (length cuts) 65536 few)
    ∙ ap (λ b. b && is_displacement (length network.unknowns) cut.pairs) (lt-ltb cut.limit (length network.limits) inside)

pub may_few : (network : NetworkOf) (cuts : List CutTextOf) (cut : CutTextOf) → may_name network cuts cut ≡ true → length cuts < 65536
may_few network cuts cut may = ltb-true (length cuts) 65536 (and_left (ltb (length cuts) 65536) (is_cut_in_range network cut) may)

pub may_displace : (network : NetworkOf) (cuts : List CutTextOf) (cut : CutTextOf) → may_name network cuts cut ≡ true → is_displacement (length network.unknowns) cut.pairs ≡ true
may_displace network cuts cut may =
    and_right (ltb cut.limit (length network.limits)) (is_displacement (length network.unknowns) cut.pairs) (and_right (ltb (length cuts) 65536) (is_cut_in_range network cut) may)

pub name_kept : (network : NetworkOf) (cuts : List CutTextOf) (node : Node) (cut : CutTextOf) → may_name network cuts cut ≡ true → KeepsRules network cuts node (naming cut)
name_kept network cuts node cut may = ap (λ (b : Bool). first_unkept (record { kept = b; kind = Range } ∷ [])) may

pub name_broken : (network : NetworkOf) (cuts : List CutTextOf) (node : Node) (cut : CutTextOf) → may_name network cuts cut ≡ false → BreaksFirst network cuts node (naming cut) Range
name_broken network cuts node cut may = ap (λ (b : Bool). first_unkept (record { kept = b; kind = Range } ∷ [])) may
