-- The limits on the redundancy of the rows of candidates keep the bounds of limits, at each value.
use Rattle.std.proofs.Common.{◌≡◌, ◌*◌, ◌^◌, ◌<◌, ◌≤◌, ℕ, ℤ, pos, ◌+ℤ◌, ◌-ℤ◌, ◌*ℤ◌, ◌≤ℤ◌, List, [], ◌∷◌, Some, length, get_or, slice_get, refl, subst, arith}
use Rattle.std.specs.Prelude.{All, unsigned_abs}
use Rattle.std.specs.Int.{int_max}
use Rattle.std.proofs.Math.Nat.{mul-le-mul, pow-le-pow_left}
use Rattle.std.proofs.lemmas.Int.{ints, clamps}
use Rattle.std.proofs.lemmas.Option.{slice_get_within, get_or_from_slice_get}
use Rattle.std.proofs.lemmas.List.Elements.{All-nil, All-cons, All-head, All-tail, All-weaker}
use Rattle.std.proofs.lemmas.List.Sums.{sum_by-le}
use Rattle.whole_algebra.specs.Sums.{int_sum_by}
use Rattle.whole_algebra.proofs.Normal.{ring, x0, x1, lit, ◌⊗◌, ◌⊕◌}
use Rattle.whole_algebra.proofs.Order.{le_refl, le_trans, add_nonneg, mul_le_mul_right, mul_nonneg, square_nonneg}
use Rattle.geo_model.specs.Row.{Displaced, IsRow, IsSparse, RowOf, form_at, row_energy, total_size, unit_at}
use Rattle.geo_model.specs.Candidate.{CandidateOf, IsCandidate, candidate_energy}
use Rattle.geo_model.specs.Energy.{full_energy}
use Rattle.geo_model.specs.Limit.{IsLoad}
use Rattle.geo_model.specs.Network.{NetworkOf, IsNetwork}
use Rattle.geo_model.specs.Values.{row_square}
use Rattle.geo_model.proofs.EnergyLemmas.{candidate_energy-nonneg, row_energy-nonneg}

-- ---- sums of terms that are not negative

pub sum-nonneg : {X : Type 0} (f : X → ℤ) (xs : List X) → All (λ x. pos 0 ≤ℤ f x) xs → pos 0 ≤ℤ int_sum_by f xs
sum-nonneg f [] all = le_refl (pos 0)
sum-nonneg f (x ∷ xs) all =
    add_nonneg (f x) (int_sum_by f xs) (All-head (λ y. pos 0 ≤ℤ f y) x xs all) (sum-nonneg f xs (All-tail (λ y. pos 0 ≤ℤ f y) x xs all))

-- the sum is at least each term
pub sum-above : {X : Type 0} (f : X → ℤ) (xs : List X) → All (λ x. pos 0 ≤ℤ f x) xs → All (λ x. f x ≤ℤ int_sum_by f xs) xs
sum-above f [] all = All-nil (λ x. f x ≤ℤ pos 0)
sum-above f (x ∷ xs) all =
    let here = All-head (λ y. pos 0 ≤ℤ f y) x xs all in
    let others = All-tail (λ y. pos 0 ≤ℤ f y) x xs all in
    let rest = sum-nonneg f xs others in
    All-cons (λ y. f y ≤ℤ (f x +ℤ int_sum_by f xs)) x xs (first (f x) (int_sum_by f xs) rest)
    (All-weaker (λ y. f y ≤ℤ int_sum_by f xs) (λ y. f y ≤ℤ (f x +ℤ int_sum_by f xs)) (λ y h. more (f y) (f x) (int_sum_by f xs) here h) xs (sum-above f xs others))
  where
    first : (a b : ℤ) → pos 0 ≤ℤ b → a ≤ℤ (a +ℤ b)
    first a b h = omega (arith, ints)

    more : (c a b : ℤ) → pos 0 ≤ℤ a → c ≤ℤ b → c ≤ℤ (a +ℤ b)
    more c a b h k = omega (arith, ints)

-- ---- the rows of candidates

-- a row of one of these candidates
pub record IsOwnRow (n : ℕ) (candidates : List CandidateOf) (row : RowOf) : Type 0 where
  pub bounds : IsRow row
  pub columns : All (λ entry. entry.0 < n) row.entries
  pub energy : (x : Displaced) → row_energy row x ≤ℤ full_energy candidates x

-- ---- the load's bounds

thousand-abs : (w : ℤ) → pos 1 ≤ℤ w → w ≤ℤ pos 1000000 → unsigned_abs (pos 1000 *ℤ w) ≤ 10 ^ 9
thousand-abs w low high = omega (arith, ints)

total-small : (b t : ℕ) → b ≤ 10 ^ 9 → t < 2 ^ 23 → b * t ^ 2 ≤ 2 ^ 80
total-small b t small few =
    let squared : t ^ 2 ≤ (2 ^ 23) ^ 2 = pow-le-pow_left (below t few) 2 in
    let product : b * t ^ 2 ≤ 10 ^ 9 * (2 ^ 23) ^ 2 = mul-le-mul small squared in
    omega (arith, product)
  where
    below : (k : ℕ) → k < 2 ^ 23 → k ≤ 2 ^ 23
    below k h = omega arith

-- 1000 times the row's energy is at most 1000 times the whole energy, with a factor
pub thousand-times : (w f alpha full : ℤ) → pos 1 ≤ℤ w → pos 1 ≤ℤ alpha → (w *ℤ (f *ℤ f)) ≤ℤ full
    → ((pos 1000 *ℤ w) *ℤ (f *ℤ f) +ℤ pos 0) ≤ℤ (pos 1000 *ℤ (alpha *ℤ full))
thousand-times w f alpha full low factor most =
    let energy : pos 0 ≤ℤ (w *ℤ (f *ℤ f)) = mul_nonneg w (f *ℤ f) (omega (arith, ints)) (square_nonneg f) in
    let more : (pos 1 *ℤ full) ≤ℤ (alpha *ℤ full) = mul_le_mul_right full (pos 1) alpha (omega (arith, ints)) factor in
    let same : (pos 1000 *ℤ w) *ℤ (f *ℤ f) +ℤ pos 0 ≡ pos 1000 *ℤ (w *ℤ (f *ℤ f)) = ring ((lit 1000 ⊗ x0) ⊗ (x1 ⊗ x1) ⊕ lit 0) (lit 1000 ⊗ (x0 ⊗ (x1 ⊗ x1))) (w ∷ f ∷ []) refl in
    rw same (compare (w *ℤ (f *ℤ f)) full (alpha *ℤ full) energy more most)
  where
    compare : (e full scaled : ℤ) → pos 0 ≤ℤ e → (pos 1 *ℤ full) ≤ℤ scaled → e ≤ℤ full → (pos 1000 *ℤ e) ≤ℤ (pos 1000 *ℤ scaled)
    compare e full scaled h k l = omega (arith, ints)

-- the diagonal: 1000 times the row's energy is at most 2 ^ 12 times the whole energy, whatever the factor
diagonal-below : (w f alpha full : ℤ) → pos 1 ≤ℤ w → pos 1 ≤ℤ alpha → (w *ℤ (f *ℤ f)) ≤ℤ full
    → ((pos 1000 *ℤ w) *ℤ (f *ℤ f) +ℤ pos 0) ≤ℤ int_max (pos (2 ^ 50)) (pos (2 ^ 12) *ℤ (alpha *ℤ full))
diagonal-below w f alpha full low factor most =
    let energy : pos 0 ≤ℤ ((pos 1000 *ℤ w) *ℤ (f *ℤ f)) = mul_nonneg (pos 1000 *ℤ w) (f *ℤ f) (omega (arith, ints)) (square_nonneg f) in
    below ((pos 1000 *ℤ w) *ℤ (f *ℤ f)) (alpha *ℤ full) energy (thousand-times w f alpha full low factor most)
  where
    below : (e scaled : ℤ) → pos 0 ≤ℤ e → (e +ℤ pos 0) ≤ℤ (pos 1000 *ℤ scaled) → (e +ℤ pos 0) ≤ℤ int_max (pos (2 ^ 50)) (pos (2 ^ 12) *ℤ scaled)
    below e scaled h k = omega (arith, ints, clamps)

pub alpha-low : (q : ℕ) → q ≤ 999 → pos 1 ≤ℤ (pos 1000 -ℤ pos q)
alpha-low q h = omega (arith, ints)

alpha-high : (q : ℕ) → (pos 1000 -ℤ pos q) ≤ℤ pos 1000000
alpha-high q = omega (arith, ints)

beta-low : (w : ℤ) → pos 1 ≤ℤ w → pos 1 ≤ℤ (pos 1000 *ℤ w)
beta-low w h = omega (arith, ints)

beta-high : (w : ℤ) → w ≤ℤ pos 1000000 → (pos 1000 *ℤ w) ≤ℤ pos (10 ^ 14)
beta-high w h = omega (arith, ints)

one : {X : Type 0} (P : X → Type 0) (x : X) → P x → All P (x ∷ [])
one P x here = All-cons P x [] here (All-nil P)

pub row-load : (n : ℕ) (candidates : List CandidateOf) (q : ℕ) (row : RowOf) → q ≤ 999 → IsOwnRow n candidates row → IsLoad n candidates (pos 1000 -ℤ pos q) (row_square row ∷ [])
row-load n candidates q row within is =
    let bounds = is.bounds in
    let square = row_square row in
    let sum = sum_by-le (λ s. unsigned_abs s.beta * total_size s.entries ^ 2) (2 ^ 80) (square ∷ [])
    (one (λ s. unsigned_abs s.beta * total_size s.entries ^ 2 ≤ 2 ^ 80) square
    (total-small (unsigned_abs (pos 1000 *ℤ row.weight)) (total_size row.entries) (thousand-abs row.weight bounds.weight_low bounds.weight_high) bounds.total)) in
    record {
      alpha_low = alpha-low q within;
      alpha_high = alpha-high q;
      beta_low = one (λ s. pos 1 ≤ℤ s.beta) square (beta-low row.weight bounds.weight_low);
      beta_high = one (λ s. s.beta ≤ℤ pos (10 ^ 14)) square (beta-high row.weight bounds.weight_high);
      sparse = one (λ s. IsSparse s.entries) square bounds.sparse;
      columns = one (λ s. All (λ entry. entry.0 < n) s.entries) square is.columns;
      total = omega (arith, sum);
      diagonal = λ i inside. diagonal-below row.weight (form_at row.entries (unit_at i)) (pos 1000 -ℤ pos q) (full_energy candidates (unit_at i)) bounds.weight_low (alpha-low q within) (is.energy (unit_at i));
    }

-- the rows of a candidate
abbrev pub AreOwnRows : ℕ → List CandidateOf → CandidateOf → Type 0
AreOwnRows n candidates candidate = All (IsOwnRow n candidates) candidate.rows

-- the energy of a row is part of that of all candidates
own-rows : (n : ℕ) (all : List CandidateOf) (candidate : CandidateOf) → IsCandidate n candidate → ((x : Displaced) → candidate_energy candidate x ≤ℤ full_energy all x)
    → AreOwnRows n all candidate
own-rows n all candidate is most = λ k d inside. record {
  bounds = is.rows k d inside;
  columns = is.columns k d inside;
  energy = λ x. le_trans (row_energy (get_or candidate.rows k d) x) (candidate_energy candidate x) (full_energy all x)
      (sum-above (λ (row : RowOf). row_energy row x) candidate.rows (λ j e within. row_energy-nonneg (get_or candidate.rows j e) x (is.rows j e within)) k d inside)
      (most x);
}

pub all-own-rows : (n : ℕ) (candidates : List CandidateOf) → All (IsCandidate n) candidates → All (AreOwnRows n candidates) candidates
all-own-rows n candidates all = λ k d inside.
    own-rows n candidates (get_or candidates k d) (all k d inside)
    (λ x. sum-above (λ (candidate : CandidateOf). candidate_energy candidate x) candidates (λ j e within. candidate_energy-nonneg n (get_or candidates j e) x (all j e within)) k d inside)

-- what stands at a number is one of all
pub All-found : {X : Type 0} (P : X → Type 0) (xs : List X) (k : ℕ) (x : X) → slice_get xs k ≡ Some x → All P xs → P x
All-found P xs k x found all = subst P (get_or_from_slice_get xs k x x found) (all k x (slice_get_within xs k x found))

-- so does each row of a network
pub network-row-load : (network : NetworkOf) (owner place value : ℕ) (candidate : CandidateOf) (row : RowOf) → IsNetwork network → value ≤ 999
    → slice_get network.candidates owner ≡ Some candidate → slice_get candidate.rows place ≡ Some row
    → IsLoad (length network.unknowns) network.candidates (pos 1000 -ℤ pos value) (row_square row ∷ [])
network-row-load network owner place value candidate row bounds within found there =
    let n = length network.unknowns in
    let own = All-found (AreOwnRows n network.candidates) network.candidates owner candidate found (all-own-rows n network.candidates bounds.each_candidate) in
    row-load n network.candidates value row within (All-found (IsOwnRow n network.candidates) candidate.rows place row there own)

-- such a row is short
pub network-row-short : (network : NetworkOf) (owner place : ℕ) (candidate : CandidateOf) (row : RowOf) → IsNetwork network
    → slice_get network.candidates owner ≡ Some candidate → slice_get candidate.rows place ≡ Some row → length row.entries ≤ 6
network-row-short network owner place candidate row bounds found there =
    let n = length network.unknowns in
    let is = All-found (IsCandidate n) network.candidates owner candidate found bounds.each_candidate in
    (All-found IsRow candidate.rows place row there is.rows).short
