use Rattle.std.proofs.Common.{◌≡◌, ◌<◌, ◌≤◌, ◌^◌, ℕ, zero, suc, ◌+◌, ◌*◌, ℤ, pos, ◌-ℤ◌, List, [], ◌∷◌, length, map, get_or, to_z, of_z, inl, inr, arith, ap, ap₂, ◌∙◌, sym, refl}
use mir.Syntax.{w128}
use Rattle.std.specs.Prelude.{All, slice_set, unsigned_abs}
use Rattle.std.proofs.Math.Nat.{mul-le-mul, mul-zero}
use Rattle.std.proofs.lemmas.Bool.{cases_lt}
use Rattle.std.proofs.lemmas.Int.{ints, to_z_pos}
use Rattle.std.proofs.lemmas.List.{get_or-set_same, get_or-set_other, get_or_past, length-map}
use Rattle.whole_algebra.specs.Matrices.{at}
use Rattle.whole_algebra.proofs.Written.{read_back}
use Rattle.geo_model.specs.Candidate.{CandidateOf}
use Rattle.geo_model.specs.Network.{NetworkOf, IsNetwork}
use Rattle.geo_model.specs.Prices.{prices_of}
use Rattle.geo_model.proofs.PriceLemmas.{candidate_price-few, listed_price}
use Rattle.reduced_sums.proofs.DualSizes.{product_price}

-- The reduced prices of the candidates, written place by place.

-- ---- one more place

pub written_more : (f : ℕ → ℤ) (x : List ℤ) (i : ℕ) (v : ℤ) → i < length x → ((k : ℕ) → k < i → at x k ≡ f k) → v ≡ f i → (k : ℕ) → k < i + 1 → at (slice_set x i v) k ≡ f k
written_more f x i v inside so_far here k below = elim (cases_lt k i) [
  | inl less ↦ get_or-set_other x i k v (pos 0) (λ same. omega (arith, same, less)) ∙ so_far k less
  | inr le ↦
      let same : k ≡ i = omega (arith, below, le) in
      ap (at (slice_set x i v)) same ∙ get_or-set_same x i v (pos 0) inside ∙ here ∙ ap f (sym same)
]

pub others_stand : (f : ℕ → ℤ) (x : List ℤ) (i : ℕ) (v : ℤ) → ((k : ℕ) → i ≤ k → at x k ≡ f k) → (k : ℕ) → i + 1 ≤ k → at (slice_set x i v) k ≡ f k
others_stand f x i v ahead k from = get_or-set_other x i k v (pos 0) (λ same. omega (arith, same, from)) ∙ ahead k (omega (arith, from))

-- ---- prices

-- the price of a candidate
pub price_at : (network : NetworkOf) (n : ℕ) (candidate : CandidateOf) → n < length network.candidates → candidate ≡ get_or network.candidates n candidate → get_or (prices_of network).candidates n 0 ≡ candidate.price
unfolding prices_of
price_at network n candidate inside here = listed_price network.candidates n candidate inside here

-- the divisor times the price of a candidate, as it is computed
pub record IsPriced (network : NetworkOf) (d i : ℕ) (over price : ℕ) : Type 0 where
  pub is : over * price ≡ d * get_or (prices_of network).candidates i 0
  pub size : over * price ≤ 2 ^ 74
  pub read : to_z w128 (over * price) ≡ pos (d * get_or (prices_of network).candidates i 0)

pub priced : (network : NetworkOf) (d i over price : ℕ) (candidate : CandidateOf) → IsNetwork network → d ≤ 2 ^ 44 → i < length network.candidates → candidate ≡ get_or network.candidates i candidate → over ≡ d → price ≡ candidate.price → IsPriced network d i over price
priced network d i over price candidate kept few inside here divisor this =
    let low : candidate.price ≤ 1000000000 = candidate_price-few network i candidate kept inside here in
    let at_place = price_at network i candidate inside here in
    let is : over * price ≡ d * get_or (prices_of network).candidates i 0 = ap₂ (λ s t. s * t) divisor (this ∙ sym at_place) in
    let size : over * price ≤ 2 ^ 74 = rw is (product_price d (get_or (prices_of network).candidates i 0) few (rw at_place low)) in
    record { is = is; size = size; read = to_z_pos w128 (over * price) (omega arith) ∙ ap pos is }

-- past the candidates there is no price
no_price : (network : NetworkOf) (i : ℕ) → length network.candidates ≤ i → get_or (prices_of network).candidates i 0 ≡ 0
unfolding prices_of
no_price network i past = get_or_past (map (λ (c : CandidateOf). c.price) network.candidates) i 0 (omega (arith, past, length-map network.candidates (λ (c : CandidateOf). c.price)))

pub all_priced : (network : NetworkOf) (d : ℕ) (x : List ℤ) → length x ≡ length network.candidates → ((k : ℕ) → k < length network.candidates → at x k ≡ pos (d * get_or (prices_of network).candidates k 0))
    → (k : ℕ) → at x k ≡ pos (d * get_or (prices_of network).candidates k 0)
all_priced network d x long each k = elim (cases_lt k (length network.candidates)) [
  | inl less ↦ each k less
  | inr past ↦
      let none : d * get_or (prices_of network).candidates k 0 ≡ 0 = ap (λ n. d * n) (no_price network k past) ∙ mul-zero d in
      get_or_past x k (pos 0) (omega (arith, past, long)) ∙ ap pos (sym none)
]

price_few : (network : NetworkOf) (i : ℕ) → IsNetwork network → get_or (prices_of network).candidates i 0 ≤ 1000000000
price_few network i kept = elim (cases_lt i (length network.candidates)) [
  | inl less ↦
      let none : CandidateOf = record { price = 0; rows = [] } in
      let candidate = get_or network.candidates i none in
      let here : candidate ≡ get_or network.candidates i candidate = same_default network.candidates i none candidate less in
      rw (price_at network i candidate less here) (candidate_price-few network i candidate kept less here)
  | inr past ↦ omega (arith, no_price network i past)
]
  where
    same_default : (xs : List CandidateOf) (i : ℕ) (d e : CandidateOf) → i < length xs → get_or xs i d ≡ get_or xs i e
    same_default [] i d e inside = absurd (omega arith)
    same_default (x ∷ xs) zero d e inside = refl
    same_default (x ∷ xs) (suc i) d e inside = let later : i < length xs = omega arith in same_default xs i d e later

pub price_size : (network : NetworkOf) (d i : ℕ) (z : ℤ) → IsNetwork network → d ≤ 2 ^ 44 → z ≡ pos (d * get_or (prices_of network).candidates i 0) → unsigned_abs z ≤ 2 ^ 74
price_size network d i z kept few is = rw is (product_price d (get_or (prices_of network).candidates i 0) few (price_few network i kept))

-- ---- what a share takes off

pub product_small : (y c : ℕ) → y ≤ 2 ^ 44 → c < 2 ^ 24 → y * c ≤ 2 ^ 68
product_small y c few small = omega (arith, mul-le-mul few (lower c small))
  where
    lower : (c : ℕ) → c < 2 ^ 24 → c ≤ 2 ^ 24
    lower c h = omega arith

-- a number less a product, as it is computed
pub record IsTaken (z : ℤ) (n : ℕ) : Type 0 where
  pub is : to_z w128 (of_z w128 (to_z w128 (of_z w128 z) -ℤ to_z w128 n)) ≡ z -ℤ pos n

less_size : (z : ℤ) (n : ℕ) → n ≤ 2 ^ 68 → unsigned_abs (z -ℤ pos n) ≤ unsigned_abs z + 2 ^ 68
less_size z n few = omega (arith, ints)

pub taken : (z : ℤ) (n : ℕ) → unsigned_abs z ≤ 2 ^ 75 → n ≤ 2 ^ 68 → IsTaken z n
taken z n size few =
    let a : to_z w128 (of_z w128 z) ≡ z = read_back z (2 ^ 75) size (omega arith) in
    let b : to_z w128 n ≡ pos n = to_z_pos w128 n (omega arith) in
    let low : unsigned_abs (z -ℤ pos n) ≤ 2 ^ 76 = omega (arith, less_size z n few, size) in
    record { is = ap₂ (λ s t. to_z w128 (of_z w128 (s -ℤ t))) a b ∙ read_back (z -ℤ pos n) (2 ^ 76) low (omega arith) }

coefficient_small : (coefficients : List ℕ) (k : ℕ) → All (λ c. c < 2 ^ 24) coefficients → get_or coefficients k 0 < 2 ^ 24
coefficient_small coefficients k each = elim (cases_lt k (length coefficients)) [
  | inl less ↦ each k 0 less
  | inr past ↦ rw (get_or_past coefficients k 0 past) (omega arith)
]

pub part_small : (coefficients : List ℕ) (y k : ℕ) → y ≤ 2 ^ 44 → All (λ c. c < 2 ^ 24) coefficients → y * get_or coefficients k 0 ≤ 2 ^ 68
part_small coefficients y k few each = product_small y (get_or coefficients k 0) few (coefficient_small coefficients k each)

-- all numbers are taken off
pub all_taken : (x old : List ℤ) (coefficients : List ℕ) (y : ℕ) → length old ≡ length coefficients → length x ≡ length old
    → ((k : ℕ) → k < length coefficients → at x k ≡ at old k -ℤ pos (y * get_or coefficients k 0)) → (k : ℕ) → at x k ≡ at old k -ℤ pos (y * get_or coefficients k 0)
all_taken x old coefficients y long also each k = elim (cases_lt k (length coefficients)) [
  | inl less ↦ each k less
  | inr past ↦
      let none : y * get_or coefficients k 0 ≡ 0 = ap (λ n. y * n) (get_or_past coefficients k 0 past) ∙ mul-zero y in
      get_or_past x k (pos 0) (omega (arith, past, long, also))
      ∙ sym (ap₂ (λ (s : ℤ) (n : ℕ). s -ℤ pos n) (get_or_past old k (pos 0) (omega (arith, past, long))) none)
]

pub taken_near : (x old : List ℤ) (coefficients : List ℕ) (y k : ℕ) → y ≤ 2 ^ 44 → All (λ c. c < 2 ^ 24) coefficients → at x k ≡ at old k -ℤ pos (y * get_or coefficients k 0) → unsigned_abs (at x k) ≤ unsigned_abs (at old k) + 2 ^ 68
taken_near x old coefficients y k few each is = rw is (less_size (at old k) (y * get_or coefficients k 0) (part_small coefficients y k few each))
