-- The scales of a grid: their range, and how large the scaled diagonal is.
use Rattle.std.proofs.Common.{◌≡◌, ℕ, zero, suc, ◌+◌, ◌*◌, ◌^◌, ◌<◌, ◌≤◌, Bool, true, false, List, [], ◌∷◌, length, replicate, refl, sym, ◌∙◌, ap, subst, arith, lit<, mul_assoc, mul_comm, ℤ, pos, negsuc, ◌+ℤ◌, ◌-ℤ◌, ◌*ℤ◌, ◌≤ℤ◌, ◌<ℤ◌}
use Rattle.std.specs.Prelude.{All, unsigned_abs}
use Rattle.std.proofs.lemmas.Int.{ints}
use Rattle.std.proofs.lemmas.Nat.{pow-add, pow_pos}
use Rattle.std.proofs.Math.Nat.{mul-lt-mul_of_pos_left, mul-pos}
use Rattle.std.proofs.lemmas.List.Elements.{All-head, All-tail}
use Rattle.geo_base.specs.Grid.{exponent_of, IsExponent}
use Rattle.geo_base.proofs.Powers.{exponent_of-IsExponent, exponent_of-range}
use Rattle.whole_algebra.proofs.Order.{le_refl, add_nonneg, add_le_add, mul_nonneg, mul_le_mul}
use Rattle.whole_algebra.proofs.Normal.{ring, x0, lit, ◌⊗◌}
use Rattle.geo_model.specs.Row.{unit_at}
use Rattle.geo_model.specs.Candidate.{CandidateOf, IsCandidate}
use Rattle.geo_model.specs.Network.{NetworkOf, IsNetwork}
use Rattle.geo_model.proofs.EnergyLemmas.{candidate_energy-nonneg}
use Rattle.normal_matrix.specs.Entries.{candidate_entry, normal_entry}
use Rattle.normal_matrix.proofs.PlanSteps.{normal_entry-size, part_entry}
use Rattle.limit_forms.specs.Form.{full_entry}

-- ---- the diagonal of the normal matrix of all candidates
full_is_normal : (candidates : List CandidateOf) (i j : ℕ) → full_entry candidates i j ≡ normal_entry candidates (replicate (length candidates) true) i j
full_is_normal [] i j = refl
full_is_normal (candidate ∷ rest) i j = ap (λ t. candidate_entry candidate i j +ℤ t) (full_is_normal rest i j)

pub full_entry-size : (network : NetworkOf) (i j : ℕ) → IsNetwork network → unsigned_abs (full_entry network.candidates i j) ≤ 512 * 2 ^ 66
full_entry-size network i j bounds =
    let same = full_is_normal network.candidates i j in
    let size = normal_entry-size (length network.unknowns) network.candidates (replicate (length network.candidates) true) i j bounds.each_candidate in
    let few = bounds.rows in
    rw same (omega arith)

candidate_diagonal : (n : ℕ) (candidate : CandidateOf) (i : ℕ) → IsCandidate n candidate → pos 0 ≤ℤ candidate_entry candidate i i
candidate_diagonal n candidate i bounds = candidate_energy-nonneg n candidate (unit_at i) bounds

full_diagonal : (n : ℕ) (candidates : List CandidateOf) (i : ℕ) → All (IsCandidate n) candidates → pos 0 ≤ℤ full_entry candidates i i
full_diagonal n [] i all = le_refl (pos 0)
full_diagonal n (candidate ∷ rest) i all =
    add_nonneg (candidate_entry candidate i i) (full_entry rest i i)
    (candidate_diagonal n candidate i (All-head (IsCandidate n) candidate rest all)) (full_diagonal n rest i (All-tail (IsCandidate n) candidate rest all))

part_at_most : (chosen : Bool) (candidate : CandidateOf) (i : ℕ) → pos 0 ≤ℤ candidate_entry candidate i i → part_entry chosen candidate i i ≤ℤ candidate_entry candidate i i
part_at_most true candidate i h = le_refl (candidate_entry candidate i i)
part_at_most false candidate i h = h

-- no plan has more on its diagonal
pub diagonal_at_most : (n : ℕ) (candidates : List CandidateOf) (plan : List Bool) (i : ℕ) → All (IsCandidate n) candidates → normal_entry candidates plan i i ≤ℤ full_entry candidates i i
diagonal_at_most n [] plan i all = le_refl (pos 0)
diagonal_at_most n (candidate ∷ rest) [] i all = full_diagonal n (candidate ∷ rest) i all
diagonal_at_most n (candidate ∷ rest) (chosen ∷ plan) i all =
    add_le_add (part_entry chosen candidate i i) (candidate_entry candidate i i) (normal_entry rest plan i i) (full_entry rest i i)
    (part_at_most chosen candidate i (candidate_diagonal n candidate i (All-head (IsCandidate n) candidate rest all)))
    (diagonal_at_most n rest plan i (All-tail (IsCandidate n) candidate rest all))

-- the number whose exponent is taken
pub record IsDiagonal (v : ℤ) : Type 0 where
  pub low : pos 0 ≤ℤ v
  pub high : v <ℤ pos (2 ^ 100)

pub diagonal_range : (network : NetworkOf) (alpha : ℤ) (i : ℕ) → IsNetwork network → pos 1 ≤ℤ alpha → alpha ≤ℤ pos 1000000 → IsDiagonal (alpha *ℤ full_entry network.candidates i i)
diagonal_range network alpha i bounds low high =
    let d = full_entry network.candidates i i in
    let nonneg = full_diagonal (length network.unknowns) network.candidates i bounds.each_candidate in
    let size = full_entry-size network i i bounds in
    let small : d ≤ℤ pos (512 * 2 ^ 66) = omega (arith, ints) in
    let first = mul_le_mul alpha d (pos (512 * 2 ^ 66)) (omega (arith, ints)) small in
    let second : (alpha *ℤ pos (512 * 2 ^ 66)) ≤ℤ pos (1000000 * (512 * 2 ^ 66)) = omega (arith, ints) in record {
      low = mul_nonneg alpha d (omega (arith, ints)) nonneg;
      high = omega (arith, ints);
    }

-- ---- exponents and scales
-- what an exponent's scale is 2 to the power of
pub record IsScale (e : ℤ) (u : ℕ) : Type 0 where
  pub is : pos u ≡ pos 60 -ℤ e
  pub low : 40 ≤ u
  pub high : u ≤ 89

pub scale_range : (v : ℤ) → IsDiagonal v → IsScale (exponent_of v) (unsigned_abs (pos 60 -ℤ exponent_of v))
scale_range v d =
    let range = exponent_of-range v d.low d.high in
    by (exponent_of v) range.0 range.1
  where
    by : (e : ℤ) → negsuc 28 ≤ℤ e → e ≤ℤ pos 20 → IsScale e (unsigned_abs (pos 60 -ℤ e))
    by e low high = record { is = omega (arith, ints); low = omega (arith, ints); high = omega (arith, ints) }

times_less : (p a b : ℕ) → 0 < p → a < b → p * a < p * b
times_less p a b some less = mul-lt-mul_of_pos_left less some

two_powers : (u k m : ℕ) → u + (u + k) ≡ m → (2 ^ u * 2 ^ u) * 2 ^ k ≡ 2 ^ m
two_powers u k m e =
    let one = pow-add 2 u (u + k) in
    let two = pow-add 2 u k in
    mul_assoc (2 ^ u) (2 ^ u) (2 ^ k) ∙ ap (λ t. 2 ^ u * t) (sym two) ∙ sym one ∙ ap (λ t. 2 ^ t) e

scaled_whole : (a k u : ℕ) → a < 2 ^ (60 + 2 * k) → u + k ≡ 60 → (2 ^ u * 2 ^ u) * a < 2 ^ 180
scaled_whole a k u below sum =
    let less = times_less (2 ^ u * 2 ^ u) a (2 ^ (60 + 2 * k)) (mul-pos (pow_pos u) (pow_pos u)) below in
    let e = two_powers u (60 + 2 * k) 180 (omega arith) in
    subst (λ t. (2 ^ u * 2 ^ u) * a < t) e less

scaled_part : (a k u : ℕ) → a * 2 ^ (2 * suc k) < 2 ^ 60 → u ≡ 61 + k → (2 ^ u * 2 ^ u) * a < 2 ^ 180
scaled_part a k u below sum =
    let one : 2 ^ u * 2 ^ u ≡ 2 ^ 120 * 2 ^ (2 * suc k) = sym (pow-add 2 u u) ∙ ap (λ t. 2 ^ t) (twice k u sum) ∙ pow-add 2 120 (2 * suc k) in
    let less = times_less (2 ^ 120) (a * 2 ^ (2 * suc k)) (2 ^ 60) (lit< tt) below in
    let e : (2 ^ u * 2 ^ u) * a ≡ 2 ^ 120 * (a * 2 ^ (2 * suc k)) = ap (λ t. t * a) one ∙ mul_assoc (2 ^ 120) (2 ^ (2 * suc k)) a ∙ ap (λ t. 2 ^ 120 * t) (mul_comm (2 ^ (2 * suc k)) a) in
    rw e less
  where
    twice : (k u : ℕ) → u ≡ 61 + k → u + u ≡ 120 + 2 * suc k
    twice k u e = omega arith

lt_pos : (a b : ℕ) → a < b → pos a <ℤ pos b
lt_pos a b h = omega (arith, ints)

lt_nat : (a b : ℕ) → pos a <ℤ pos b → a < b
lt_nat a b h = omega (arith, ints)

-- the scaled diagonal stays below 2 ^ 180
pub scaled_diagonal : (v : ℤ) → IsDiagonal v → (u : ℕ) → IsScale (exponent_of v) u → ((pos (2 ^ u) *ℤ pos (2 ^ u)) *ℤ v) <ℤ pos (2 ^ 180)
scaled_diagonal (negsuc a) d u s = absurd (let l = d.low in omega (arith, ints))
scaled_diagonal (pos zero) d u s = let e : (pos (2 ^ u) *ℤ pos (2 ^ u)) *ℤ pos 0 ≡ pos 0 = ring ((x0 ⊗ x0) ⊗ lit 0) (lit 0) (pos (2 ^ u) ∷ []) refl in rw e (omega (arith, ints))
scaled_diagonal (pos (suc a)) d u s =
    let is = exponent_of-IsExponent (pos (suc a)) (omega (arith, ints)) (let h = d.high in omega (arith, ints)) in
    by (exponent_of (pos (suc a))) s.is is
  where
    by : (e : ℤ) → pos u ≡ pos 60 -ℤ e → IsExponent (pos (suc a)) e → ((pos (2 ^ u) *ℤ pos (2 ^ u)) *ℤ pos (suc a)) <ℤ pos (2 ^ 180)
    by (pos k) is exponent =
        let h = exponent.1 in
        let less = scaled_whole (suc a) k u (omega (arith, ints)) (omega (arith, ints)) in
        lt_pos ((2 ^ u * 2 ^ u) * suc a) (2 ^ 180) less
    by (negsuc k) is exponent =
        let h = exponent.1 in
        let less = scaled_part (suc a) k u (lt_nat (suc a * 2 ^ (2 * suc k)) (2 ^ 60) h) (omega (arith, ints)) in
        lt_pos ((2 ^ u * 2 ^ u) * suc a) (2 ^ 180) less
