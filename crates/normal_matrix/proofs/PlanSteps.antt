-- Normal matrices of plans: symmetry, sizes, and one candidate more or less.
use Rattle.std.proofs.Common.{◌≡◌, ℕ, zero, suc, ◌-◌, ◌*◌, ◌^◌, ◌<◌, ◌≤◌, ◌⊎◌, inl, inr, ℤ, pos, negsuc, ◌+ℤ◌, ◌*ℤ◌, ◌≤ℤ◌, if◌then◌else◌, Bool, true, false, List, [], ◌∷◌, length, get_or, replicate, Some, refl, sym, ◌∙◌, ap, ap₂, subst, arith}
use Rattle.std.specs.Prelude.{All, sum_by, slice_get, slice_set, unsigned_abs}
use Rattle.std.proofs.lemmas.Bool.{cases_lt}
use Rattle.std.proofs.lemmas.Int.{ints}
use Rattle.std.proofs.lemmas.List.Elements.{All-head, All-tail}
use Rattle.std.proofs.lemmas.List.Sums.{sum_by-cons}
use Rattle.std.proofs.Math.ListN.{length-set}
use Rattle.whole_algebra.specs.Sums.{int_sum_by}
use Rattle.whole_algebra.specs.Matrices.{at}
use Rattle.whole_algebra.specs.Grid.{row_at, entry}
use Rattle.whole_algebra.proofs.Normal.{ring, x0, lit, ◌⊕◌, ◌⊗◌}
use Rattle.lent_parts.specs.Triangle.{IsTri, zero_tri}
use Rattle.lent_parts.proofs.Triangles.{length-IsTri}
use Rattle.whole_algebra.proofs.Ring.{mul_comm}
use Rattle.whole_algebra.proofs.Order.{size-add, size-mul}
use Rattle.whole_algebra.proofs.SumLaws.{int_sum_by-same}
use Rattle.whole_algebra.proofs.Written.{at-zeros}
use Rattle.geo_model.specs.Row.{RowOf, IsRow}
use Rattle.geo_model.specs.Candidate.{CandidateOf, IsCandidate}
use Rattle.geo_model.specs.Network.{NetworkOf, IsNetwork}
use Rattle.geo_model.proofs.SizeLemmas.{light}
use Rattle.geo_model.proofs.SumSteps.{rows-few}
use Rattle.normal_matrix.specs.Entries.{coefficient, row_entry, candidate_entry, normal_entry}
use Rattle.normal_matrix.specs.Normal.{NormalOf, IsNormalOf}
use Rattle.normal_matrix.proofs.RowSteps.{rows_size}

-- what a candidate adds where it is chosen
abbrev pub part_entry : Bool → CandidateOf → ℕ → ℕ → ℤ
part_entry chosen candidate i j = if chosen then candidate_entry candidate i j else pos 0

-- ---- symmetry
candidate_entry-symmetric : (candidate : CandidateOf) (i j : ℕ) → candidate_entry candidate i j ≡ candidate_entry candidate j i
candidate_entry-symmetric candidate i j =
    int_sum_by-same (λ row. row_entry row i j) (λ row. row_entry row j i) candidate.rows
    (λ row. ap (λ t. row.weight *ℤ t) (mul_comm (coefficient row.entries i) (coefficient row.entries j)))

part_entry-symmetric : (chosen : Bool) (candidate : CandidateOf) (i j : ℕ) → part_entry chosen candidate i j ≡ part_entry chosen candidate j i
part_entry-symmetric true candidate i j = candidate_entry-symmetric candidate i j
part_entry-symmetric false candidate i j = refl

pub normal_entry-symmetric : (candidates : List CandidateOf) (plan : List Bool) (i j : ℕ) → normal_entry candidates plan i j ≡ normal_entry candidates plan j i
normal_entry-symmetric [] plan i j = refl
normal_entry-symmetric (candidate ∷ rest) [] i j = refl
normal_entry-symmetric (candidate ∷ rest) (chosen ∷ plan) i j =
    ap₂ (λ s t. s +ℤ t) (part_entry-symmetric chosen candidate i j) (normal_entry-symmetric rest plan i j)

-- ---- sizes
part_entry-size : (chosen : Bool) (unknowns : ℕ) (candidate : CandidateOf) (i j : ℕ) → IsCandidate unknowns candidate → unsigned_abs (part_entry chosen candidate i j) ≤ length candidate.rows * (1000000 * 2 ^ 42)
part_entry-size true unknowns candidate i j bounds = rows_size candidate.rows i j bounds.rows
part_entry-size false unknowns candidate i j bounds = omega arith

pub normal_entry-size : (unknowns : ℕ) (candidates : List CandidateOf) (plan : List Bool) (i j : ℕ) → All (IsCandidate unknowns) candidates
    → unsigned_abs (normal_entry candidates plan i j) ≤ sum_by (λ candidate. length candidate.rows) candidates * (1000000 * 2 ^ 42)
normal_entry-size unknowns [] plan i j all = omega arith
normal_entry-size unknowns (candidate ∷ rest) [] i j all = omega arith
normal_entry-size unknowns (candidate ∷ rest) (chosen ∷ plan) i j all =
    let first = part_entry-size chosen unknowns candidate i j (All-head (IsCandidate unknowns) candidate rest all) in
    let later = normal_entry-size unknowns rest plan i j (All-tail (IsCandidate unknowns) candidate rest all) in
    let both = size-add (part_entry chosen candidate i j) (normal_entry rest plan i j) in
    let total = sum_by-cons (λ (c : CandidateOf). length c.rows) candidate rest in
    omega arith

-- an entry of a network's normal matrix, and the factor times it
network_entry-size : (network : NetworkOf) (plan : List Bool) (i j : ℕ) → IsNetwork network → unsigned_abs (normal_entry network.candidates plan i j) ≤ 512 * (1000000 * 2 ^ 42)
network_entry-size network plan i j bounds =
    let size = normal_entry-size (length network.unknowns) network.candidates plan i j bounds.each_candidate in
    let few = bounds.rows in
    omega arith

pub network_entry-small : (network : NetworkOf) (plan : List Bool) (i j : ℕ) → IsNetwork network → unsigned_abs (normal_entry network.candidates plan i j) < 2 ^ 71
network_entry-small network plan i j bounds = let h = network_entry-size network plan i j bounds in omega arith

pub scaled_entry-small : (network : NetworkOf) (plan : List Bool) (alpha : ℤ) (i j : ℕ) → IsNetwork network → pos 1 ≤ℤ alpha → alpha ≤ℤ pos 1000000
    → unsigned_abs (alpha *ℤ normal_entry network.candidates plan i j) < 2 ^ 91
scaled_entry-small network plan alpha i j bounds low high =
    let h = size-mul alpha (normal_entry network.candidates plan i j) 1000000 (512 * (1000000 * 2 ^ 42)) (light alpha low high) (network_entry-size network plan i j bounds) in
    omega arith

-- ---- plans
-- the empty plan
pub normal_entry-none : (candidates : List CandidateOf) (m i j : ℕ) → normal_entry candidates (replicate m false) i j ≡ pos 0
normal_entry-none [] m i j = refl
normal_entry-none (candidate ∷ rest) zero i j = refl
normal_entry-none (candidate ∷ rest) (suc m) i j = let e = normal_entry-none rest m i j in omega (arith, ints)

-- a plan with one candidate taken in or left out
pub normal_entry-set : (candidates : List CandidateOf) (plan : List Bool) (k i j : ℕ) (d : CandidateOf) (old new : Bool) → slice_get plan k ≡ Some old → k < length candidates
    → normal_entry candidates (slice_set plan k new) i j +ℤ part_entry old (get_or candidates k d) i j
    ≡ normal_entry candidates plan i j +ℤ part_entry new (get_or candidates k d) i j
normal_entry-set [] plan k i j d old new flag inside = absurd (omega arith)
normal_entry-set (candidate ∷ rest) [] k i j d old new flag inside = absurd (cc)
normal_entry-set (candidate ∷ rest) (b ∷ plan) zero i j d old new flag inside =
    let same : b ≡ old = cc in
    let e : part_entry b candidate i j ≡ part_entry old candidate i j = ap (λ (t : Bool). part_entry t candidate i j) same in
    omega (arith, ints)
normal_entry-set (candidate ∷ rest) (b ∷ plan) (suc k) i j d old new flag inside =
    let later : k < length rest = omega arith in
    let e = normal_entry-set rest plan k i j d old new flag later in
    omega (arith, ints)

-- ---- a kept normal matrix
le_or_ge : (i j : ℕ) → (i ≤ j) ⊎ (j ≤ i)
le_or_ge i j = elim (cases_lt j i) [ inl less ↦ inr (omega arith) | inr le ↦ inl le ]

pub exact_entry : (network : NetworkOf) (normal : NormalOf) (rows : List (List ℤ)) (i j : ℕ) (result : ℤ) → IsNormalOf network normal → rows ≡ normal.rows
    → i < length normal.rows → j < length normal.rows → (i ≤ j → result ≡ entry rows i j) → (j ≤ i → result ≡ entry rows j i)
    → result ≡ normal_entry network.candidates normal.plan i j
exact_entry network normal rows i j result made same row column upper lower =
    let size = made.size in
    elim (le_or_ge i j) [
      | inl le ↦ upper le ∙ ap (λ (r : List (List ℤ)). entry r i j) same ∙ made.exact i j le (omega arith)
      | inr ge ↦ lower ge ∙ ap (λ (r : List (List ℤ)). entry r j i) same ∙ made.exact j i ge (omega arith) ∙ normal_entry-symmetric network.candidates normal.plan j i
    ]

pub entry_is_small : (network : NetworkOf) (normal : NormalOf) (rows : List (List ℤ)) (i j : ℕ) → IsNetwork network → IsNormalOf network normal → rows ≡ normal.rows
    → i ≤ j → j < length rows → unsigned_abs (entry rows i j) ≤ 2 ^ 100
entry_is_small network normal rows i j bounds made same le lt =
    let size = made.size in
    let len = ap length same in
    let is : entry rows i j ≡ normal_entry network.candidates normal.plan i j = ap (λ (r : List (List ℤ)). entry r i j) same ∙ made.exact i j le (omega arith) in
    let small = normal_entry-size (length network.unknowns) network.candidates normal.plan i j bounds.each_candidate in
    let few = bounds.rows in
    rw is (omega arith)

pub got_inside : (plan : List Bool) (k : ℕ) (b : Bool) → slice_get plan k ≡ Some b → k < length plan
got_inside [] k b e = absurd (cc)
got_inside (x ∷ plan) zero b e = omega arith
got_inside (x ∷ plan) (suc k) b e = let h = got_inside plan k b e in omega arith

-- the rows of candidate k of a network
pub record IsRowsOf (network : NetworkOf) (rows : List RowOf) : Type 0 where
  pub few : length rows ≤ 512
  pub each_row : All IsRow rows
  pub columns : All (λ row. All (λ entry. entry.0 < length network.unknowns) row.entries) rows

pub rows_of_candidate : (network : NetworkOf) (candidates : List CandidateOf) (k : ℕ) (candidate : CandidateOf) (rows : List RowOf) → IsNetwork network → candidates ≡ network.candidates
    → k < length network.candidates → candidate ≡ get_or candidates k candidate → rows ≡ candidate.rows → IsRowsOf network rows
rows_of_candidate network candidates k candidate rows bounds same inside is listed =
    let here : candidate ≡ get_or network.candidates k candidate = is ∙ ap (λ (l : List CandidateOf). get_or l k candidate) same in
    let one : IsCandidate (length network.unknowns) candidate = subst (IsCandidate (length network.unknowns)) (sym here) (bounds.each_candidate k candidate inside) in
    let count = rows-few network.candidates k candidate inside in
    let total = bounds.rows in
    let mine : length candidate.rows ≡ length (get_or network.candidates k candidate).rows = ap (λ (c : CandidateOf). length c.rows) here in
    let few : length candidate.rows ≤ 512 = omega arith in record {
      few = rw listed few;
      each_row = rw listed one.rows;
      columns = rw listed one.columns;
    }

-- one candidate's rows were added or taken off
pub IsNormalOf-changed : (network : NetworkOf) (normal : NormalOf) (before after : List (List ℤ)) (plan : List Bool) (candidates : List CandidateOf) (k : ℕ) (candidate : CandidateOf) (rows : List RowOf) (old new : Bool) (sign : ℤ)
    → IsNormalOf network normal → before ≡ normal.rows → plan ≡ slice_set normal.plan k new → slice_get normal.plan k ≡ Some old → length after ≡ length before
    → candidates ≡ network.candidates → candidate ≡ get_or candidates k candidate → rows ≡ candidate.rows
    → ((i j : ℕ) → i ≤ j → j < length before → entry after i j ≡ entry before i j +ℤ sign *ℤ int_sum_by (λ row. row_entry row i j) rows)
    → ((i j : ℕ) → part_entry old candidate i j +ℤ sign *ℤ candidate_entry candidate i j ≡ part_entry new candidate i j)
    → IsNormalOf network (record { plan = plan; rows = after })
IsNormalOf-changed network normal before after plan candidates k candidate rows old new sign made same planned flag tall listed is given added parts =
    let size = made.size in
    let places = made.places in
    let inside = got_inside normal.plan k old flag in
    let here : candidate ≡ get_or network.candidates k candidate = is ∙ ap (λ (l : List CandidateOf). get_or l k candidate) listed in
    let len = ap length same in
    let kept = length-set normal.plan k new in
    let long = ap length planned in record {
      places = omega arith;
      size = omega arith;
      exact = λ i j le lt.
          added i j le (omega arith)
          ∙ ap₂ (λ s t. s +ℤ sign *ℤ t) (ap (λ (r : List (List ℤ)). entry r i j) same ∙ made.exact i j le lt) (ap (λ (l : List RowOf). int_sum_by (λ row. row_entry row i j) l) given)
          ∙ moved (normal_entry network.candidates normal.plan i j) (normal_entry network.candidates (slice_set normal.plan k new) i j) (part_entry old candidate i j) (part_entry new candidate i j) (sign *ℤ candidate_entry candidate i j)
          (ap (λ (c : CandidateOf). normal_entry network.candidates (slice_set normal.plan k new) i j +ℤ part_entry old c i j) here
          ∙ normal_entry-set network.candidates normal.plan k i j candidate old new flag (omega arith)
          ∙ ap (λ (c : CandidateOf). normal_entry network.candidates normal.plan i j +ℤ part_entry new c i j) (sym here))
          (parts i j)
          ∙ ap (λ (p : List Bool). normal_entry network.candidates p i j) (sym planned);
    }
  where
    moved : (n n' po pn c : ℤ) → n' +ℤ po ≡ n +ℤ pn → po +ℤ c ≡ pn → n +ℤ c ≡ n'
    moved n n' po pn c e f = omega (arith, ints)

pub part_taken_in : (candidate : CandidateOf) (i j : ℕ) → part_entry false candidate i j +ℤ pos 1 *ℤ candidate_entry candidate i j ≡ part_entry true candidate i j
part_taken_in candidate i j = ring (lit 0 ⊕ lit 1 ⊗ x0) x0 (candidate_entry candidate i j ∷ []) refl

pub part_left_out : (candidate : CandidateOf) (i j : ℕ) → part_entry true candidate i j +ℤ negsuc 0 *ℤ candidate_entry candidate i j ≡ part_entry false candidate i j
part_left_out candidate i j = omega (arith, ints)

-- no candidate's rows yet
entry_of_zeros : (n i k : ℕ) → at (row_at (zero_tri n) i) k ≡ pos 0
entry_of_zeros zero i k = refl
entry_of_zeros (suc n) zero k = at-zeros (suc n) k
entry_of_zeros (suc n) (suc i) k = entry_of_zeros n i k

length-none : (n : ℕ) → length (replicate n false) ≡ n
length-none zero = refl
length-none (suc n) = ap suc (length-none n)

pub IsNormalOf-none : (network : NetworkOf) (plan : List Bool) (rows : List (List ℤ)) (m n : ℕ) → plan ≡ replicate m false → rows ≡ zero_tri n → IsTri n rows
    → m ≡ length network.candidates → n ≡ length network.unknowns → IsNormalOf network (record { plan = plan; rows = rows })
IsNormalOf-none network plan rows m n none zeros shape places size =
    let long = ap length none ∙ length-none m in
    let tall = length-IsTri n rows shape in record {
      places = omega arith;
      size = omega arith;
      exact = λ i j le lt.
          ap (λ (r : List (List ℤ)). entry r i j) zeros
          ∙ entry_of_zeros n i (j - i)
          ∙ sym (normal_entry-none network.candidates m i j)
          ∙ ap (λ (p : List Bool). normal_entry network.candidates p i j) (sym none);
    }
