-- The moves of a displacement, as a line names them.
use Rattle.std.proofs.Common.{◌≡◌, if◌then◌else◌, ℕ, zero, suc, ◌+◌, ◌<◌, ◌≤◌, ◌^◌, ◌&&◌, ltb, Bool, true, false, List, [], ◌∷◌, length, get_or, drop, arith, refl, ap, subst, sym, ◌∙◌, Some, inl, inr}
use Rattle.std.specs.Prelude.{ℤ, pos, negsuc, flat_map, nat_le, slice_get, unsigned_abs}
use Rattle.std.proofs.lemmas.Bool.{cases_Bool, false≢true, le-leb, lt-ltb, ne_eqb}
use Rattle.std.proofs.Common.{eq-eqb}
use Rattle.std.proofs.lemmas.List.{drop_more}
use Rattle.whole_algebra.specs.Matrices.{at}
use Rattle.geo_model.specs.Limit.{LimitOf, IsInForce}
use Rattle.geo_model.specs.Meeting.{Breaks}
use Rattle.geo_model.specs.Network.{NetworkOf}
use Rattle.geo_model.specs.Row.{Displaced, IsNarrow}
use Rattle.geo_model.specs.declared.plan.Node.{Node}
use Rattle.cut_pool.specs.Cut.{CutOf}
use Rattle.bound_log.specs.CutText.{cut_numbers, displaced_by, moves_from, pair_numbers, text_of_cut}
use Rattle.bound_log.specs.Grammar.{IsLine, number_bound}
use Rattle.bound_log.specs.LogText.{line_body}
use Rattle.bound_log.specs.Numbers.{AreShort}
use Rattle.bound_log.specs.Rules.{IsAllowedLine, are_moves, is_displacement}
use Rattle.bound_log.specs.declared.log_leaf.LogLeaf.TheVariants.{Cut}
use Rattle.bound_log.specs.declared.log_line.LogLine.TheVariants.{Leaf}
use Rattle.bound_log.proofs.AllowedLemmas.{cut_allowed}
use Rattle.bound_log.proofs.GrammarLemmas.{IsLine-body}

abbrev moves : ℤ → Bool
moves v = ltb 0 (unsigned_abs v)

-- what moves by no size is 0
still : (v : ℤ) → moves v ≡ false → v ≡ pos 0
still (pos zero) is = refl
still (pos (suc n)) is = absurd (false≢true (sym is ∙ lt-ltb 0 (suc n) (omega arith)))
still (negsuc n) is = absurd (false≢true (sym is ∙ lt-ltb 0 (suc n) (omega arith)))

-- the pairs where an unknown moves, or doesn't
abbrev taken : Bool → ℕ → ℤ → List (ℕ × ℤ) → List (ℕ × ℤ)
taken b k v rest = if b then (k, v) ∷ rest else rest

-- the moves from a number on move no unknown before it
unmoved : (k i : ℕ) (x : List ℤ) → i < k → displaced_by (moves_from k x) i ≡ pos 0
unmoved k i [] below = refl
unmoved k i (v ∷ rest) below =
    let later : displaced_by (moves_from (suc k) rest) i ≡ pos 0 = unmoved (suc k) i rest (omega (arith, below)) in
    elim (cases_Bool (moves v)) [
      | inl is ↦
          ap (λ b. displaced_by (taken b k v (moves_from (suc k) rest)) i) is
          ∙ ap (λ b. if b then v else displaced_by (moves_from (suc k) rest) i) (ne_eqb k i (λ same. omega (arith, same, below)))
          ∙ later
      | inr not ↦ ap (λ b. displaced_by (taken b k v (moves_from (suc k) rest)) i) not ∙ later
    ]

-- .. and each from there on as the list does
moved : (k j : ℕ) (x : List ℤ) → displaced_by (moves_from k x) (k + j) ≡ at x j
moved k j [] = refl
moved k zero (v ∷ rest) = elim (cases_Bool (moves v)) [
  | inl is ↦
      ap (λ b. displaced_by (taken b k v (moves_from (suc k) rest)) (k + zero)) is
      ∙ ap (λ b. if b then v else displaced_by (moves_from (suc k) rest) (k + zero)) (eq-eqb k (k + zero) (omega arith))
  | inr not ↦
      ap (λ b. displaced_by (taken b k v (moves_from (suc k) rest)) (k + zero)) not
      ∙ unmoved (suc k) (k + zero) rest (omega arith)
      ∙ sym (still v not)
]
moved k (suc j) (v ∷ rest) =
    let place : k + suc j ≡ suc k + j = omega arith in
    let later : displaced_by (moves_from (suc k) rest) (k + suc j) ≡ at rest j = ap (displaced_by (moves_from (suc k) rest)) place ∙ moved (suc k) j rest in
    elim (cases_Bool (moves v)) [
      | inl is ↦
          ap (λ b. displaced_by (taken b k v (moves_from (suc k) rest)) (k + suc j)) is
          ∙ ap (λ b. if b then v else displaced_by (moves_from (suc k) rest) (k + suc j)) (ne_eqb k (k + suc j) (λ same. omega (arith, same)))
          ∙ later
      | inr not ↦ ap (λ b. displaced_by (taken b k v (moves_from (suc k) rest)) (k + suc j)) not ∙ later
    ]

pub displaced-moves : (x : List ℤ) (i : ℕ) → displaced_by (moves_from 0 x) i ≡ at x i
displaced-moves x i = let place : 0 + i ≡ i = omega arith in ap (displaced_by (moves_from 0 x)) (sym place) ∙ moved 0 i x

-- so they are one displacement
pub moved_alike : (x : List ℤ) → at x ≡ displaced_by (moves_from 0 x)
moved_alike x = λ i. λ unknown. sym (displaced-moves x unknown) i

-- ---- moves keep the ranges of a line

pub moves_few : (k : ℕ) (x : List ℤ) → length (moves_from k x) ≤ length x
moves_few k [] = omega arith
moves_few k (v ∷ rest) =
    let later : length (moves_from (suc k) rest) ≤ length rest = moves_few (suc k) rest in
    elim (cases_Bool (moves v)) [
      | inl is ↦ subst (λ b. length (taken b k v (moves_from (suc k) rest)) ≤ length (v ∷ rest)) (sym is) (omega (arith, later))
      | inr not ↦ subst (λ b. length (taken b k v (moves_from (suc k) rest)) ≤ length (v ∷ rest)) (sym not) (omega (arith, later))
    ]

all_five : (a b c d e : Bool) → a ≡ true → b ≡ true → c ≡ true → d ≡ true → e ≡ true → (((a && b) && (c && d)) && e) ≡ true
all_five a b c d e one two three four five =
    ap (λ x. ((x && b) && (c && d)) && e) one ∙ ap (λ x. (x && (c && d)) && e) two ∙ ap (λ x. (x && d) && e) three ∙ ap (λ x. x && e) four ∙ five

moves_kept : (unknowns least k : ℕ) (x : List ℤ) → least ≤ k → k + length x ≤ unknowns → IsNarrow (at x) → are_moves unknowns least (moves_from k x) ≡ true
moves_kept unknowns least k [] low high narrow = refl
moves_kept unknowns least k (v ∷ rest) low high narrow =
    let later : IsNarrow (at rest) = λ i. narrow (suc i) in
    let small : unsigned_abs v ≤ 2 ^ 15 = narrow 0 in
    elim (cases_Bool (moves v)) [
      | inl is ↦
          ap (λ b. are_moves unknowns least (taken b k v (moves_from (suc k) rest))) is
          ∙ all_five (nat_le least k) (ltb k unknowns) (ltb 0 (unsigned_abs v)) (nat_le (unsigned_abs v) 32768) (are_moves unknowns (suc k) (moves_from (suc k) rest))
          (le-leb least k low) (lt-ltb k unknowns (omega (arith, high))) is (le-leb (unsigned_abs v) 32768 (omega (arith, small)))
          (moves_kept unknowns (suc k) (suc k) rest (omega arith) (omega (arith, high)) later)
      | inr not ↦
          ap (λ b. are_moves unknowns least (taken b k v (moves_from (suc k) rest))) not
          ∙ moves_kept unknowns least (suc k) rest (omega (arith, low)) (omega (arith, high)) later
    ]

-- .. and have short numbers
moves_short : (k : ℕ) (x : List ℤ) → k + length x < number_bound → IsNarrow (at x) → AreShort (flat_map pair_numbers (moves_from k x))
moves_short k [] high narrow = tt
moves_short k (v ∷ rest) high narrow =
    let later : IsNarrow (at rest) = λ i. narrow (suc i) in
    let small : unsigned_abs v ≤ 2 ^ 15 = narrow 0 in
    let others : AreShort (flat_map pair_numbers (moves_from (suc k) rest)) = moves_short (suc k) rest (omega (arith, high)) later in
    elim (cases_Bool (moves v)) [
      | inl is ↦
          subst (λ b. AreShort (flat_map pair_numbers (taken b k v (moves_from (suc k) rest)))) (sym is) (omega (arith, high), (omega (arith, small), others))
      | inr not ↦ subst (λ b. AreShort (flat_map pair_numbers (taken b k v (moves_from (suc k) rest)))) (sym not) others
    ]

pub cut_text_short : (cut : CutOf) → cut.limit < 2 ^ 32 → length cut.x < 2 ^ 32 → IsNarrow (at cut.x) → AreShort (cut_numbers (text_of_cut cut))
cut_text_short cut limit long narrow =
    let few : length (moves_from 0 cut.x) ≤ length cut.x = moves_few 0 cut.x in
    (omega (arith, limit), (omega (arith, few, long), moves_short 0 cut.x (omega (arith, long)) narrow))

pub cut_line_read : (cut : CutOf) → cut.limit < 2 ^ 32 → length cut.x < 2 ^ 32 → IsNarrow (at cut.x) → IsLine (line_body (Leaf (Cut (text_of_cut cut)))) (Leaf (Cut (text_of_cut cut)))
cut_line_read cut limit long narrow = IsLine-body (Leaf (Cut (text_of_cut cut))) (cut_text_short cut limit long narrow)

both_kept : (a b : Bool) → a ≡ true → b ≡ true → (a && b) ≡ true
both_kept a b one two = ap (λ x. x && b) one ∙ two

pub moves_displace : (unknowns : ℕ) (x : List ℤ) → length x ≡ unknowns → IsNarrow (at x) → is_displacement unknowns (moves_from 0 x) ≡ true
moves_displace unknowns x long narrow =
    both_kept (nat_le (length (moves_from 0 x)) unknowns) (are_moves unknowns 0 (moves_from 0 x))
    (le-leb (length (moves_from 0 x)) unknowns (omega (arith, moves_few 0 x, long)))
    (moves_kept unknowns 0 0 x (omega arith) (omega (arith, long)) narrow)

-- ---- the line of a cut that is broken

pub cut_line_allowed : (network : NetworkOf) (node : Node) (cut : CutOf) (limit : LimitOf) → length cut.x ≡ length network.unknowns → IsNarrow (at cut.x) →
    slice_get network.limits cut.limit ≡ Some limit → IsInForce limit node.inside → Breaks network node.upper limit (at cut.x) →
    IsAllowedLine network node (Leaf (Cut (text_of_cut cut)))
cut_line_allowed network node cut limit long narrow named owned breaks =
    cut_allowed network node (text_of_cut cut) (record {
      limit = limit;
      named = named;
      displacement = moves_displace (length network.unknowns) cut.x long narrow;
      owned = owned;
      breaks = subst (λ (x : Displaced). Breaks network node.upper limit x) (moved_alike cut.x) breaks;
    })

-- ---- the moves of a list, one by one

step : (i : ℕ) (x : List ℤ) (v : ℤ) → i < length x → get_or x i (pos 0) ≡ v → drop i x ≡ v ∷ drop (i + 1) x
step i x v inside is = drop_more x i (pos 0) inside ∙ ap (λ u. u ∷ drop (i + 1) x) is

-- the next entry moves: its pair comes first
pub next_moves : (i : ℕ) (x : List ℤ) (v : ℤ) → i < length x → get_or x i (pos 0) ≡ v → (v ≡ pos 0 → ⊥) → moves_from i (drop i x) ≡ (i, v) ∷ moves_from (i + 1) (drop (i + 1) x)
next_moves i x v inside is apart = elim (cases_Bool (moves v)) [
  | inl moved_now ↦
      let one : suc i ≡ i + 1 = omega arith in
      ap (moves_from i) (step i x v inside is) ∙ ap (λ b. taken b i v (moves_from (suc i) (drop (i + 1) x))) moved_now ∙ ap (λ n. (i, v) ∷ moves_from n (drop (i + 1) x)) one
  | inr not ↦ absurd (apart (still v not))
]

-- the next entry doesn't move: it has no pair
pub next_still : (i : ℕ) (x : List ℤ) → i < length x → get_or x i (pos 0) ≡ pos 0 → moves_from i (drop i x) ≡ moves_from (i + 1) (drop (i + 1) x)
next_still i x inside is =
    let one : suc i ≡ i + 1 = omega arith in
    ap (moves_from i) (step i x (pos 0) inside is) ∙ ap (λ n. moves_from n (drop (i + 1) x)) one
