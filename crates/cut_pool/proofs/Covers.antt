-- Plans that meet a limit satisfy its cuts.
use Rattle.std.proofs.Common.{◌≡◌, ℕ, ◌+◌, ◌-◌, ◌*◌, ◌<◌, ◌≤◌, ◌⊎◌, inl, inr, if◌then◌else◌, Bool, true, false, List, [], ◌∷◌, map, min, length, sym, ◌∙◌, ap₂, subst, arith, add-mul, ℤ, pos, ◌+ℤ◌, ◌*ℤ◌, ◌≤ℤ◌}
use Rattle.std.specs.Prelude.{All, unsigned_abs}
use Rattle.std.proofs.lemmas.Bool.{cases_lt}
use Rattle.std.proofs.lemmas.Int.{ints}
use Rattle.std.proofs.lemmas.List.Elements.{All-head, All-tail}
use Rattle.std.proofs.lemmas.Nat.{pow_pos}
use Rattle.std.proofs.Math.Nat.{lt-div-mul-add, div-le_of_le-mul, mul_comm}
use Rattle.std.proofs.Math.Seq.{take-length}
use Rattle.whole_algebra.proofs.Order.{le_trans, mul_nonneg}
use Rattle.whole_algebra.proofs.Ring.{mul_add, mul_zero}
use Rattle.geo_model.specs.Row.{Displaced}
use Rattle.geo_model.specs.Candidate.{CandidateOf, IsCandidate, candidate_energy}
use Rattle.geo_model.specs.Energy.{energy}
use Rattle.geo_model.specs.Limit.{SquareOf, LimitOf, load}
use Rattle.geo_model.specs.Network.{NetworkOf, IsNetwork, IsLimit}
use Rattle.geo_model.specs.Meeting.{MeetsLimit}
use Rattle.geo_model.specs.Cover.{chosen_sum, Satisfies}
use Rattle.geo_model.proofs.EnergyLemmas.{candidate_energy-nonneg}
use Rattle.geo_model.proofs.SumSteps.{load_take-nonneg}
use Rattle.cut_pool.specs.Cut.{cut_shift, load_number, energy_number, rounded_up, divisor_of, bound_of, coefficient_of, cover_of}

-- ---- the parts of the chosen candidates are the factor times the energy
nonneg_is : (z : ℤ) → pos 0 ≤ℤ z → pos (unsigned_abs z) ≡ z
nonneg_is z h = omega (arith, ints)

part_is : (chosen : Bool) (alpha e : ℤ) → pos 0 ≤ℤ alpha → pos 0 ≤ℤ e → pos (if chosen then unsigned_abs (alpha *ℤ e) else 0) ≡ alpha *ℤ (if chosen then e else pos 0)
part_is true alpha e a h = nonneg_is (alpha *ℤ e) (mul_nonneg alpha e a h)
part_is false alpha e a h = sym (mul_zero alpha)

pub chosen_energies : (n : ℕ) (candidates : List CandidateOf) (plan : List Bool) (limit : LimitOf) (x : Displaced) → All (IsCandidate n) candidates → pos 0 ≤ℤ limit.alpha
    → pos (chosen_sum (map (energy_number limit x) candidates) plan) ≡ limit.alpha *ℤ energy candidates plan x
chosen_energies n [] plan limit x all low = sym (mul_zero limit.alpha)
chosen_energies n (candidate ∷ rest) [] limit x all low = sym (mul_zero limit.alpha)
chosen_energies n (candidate ∷ rest) (chosen ∷ plan) limit x all low =
    ap₂ (λ s t. s +ℤ t)
    (part_is chosen limit.alpha (candidate_energy candidate x) low (candidate_energy-nonneg n candidate x (All-head (IsCandidate n) candidate rest all)))
    (chosen_energies n rest plan limit x (All-tail (IsCandidate n) candidate rest all) low)
    ∙ sym (mul_add limit.alpha (if chosen then candidate_energy candidate x else pos 0) (energy rest plan x))

-- ---- rounding
-- a quotient rounded up, times the divisor, reaches the number
rounded_up-reaches : (n d : ℕ) → 0 < d → n ≤ rounded_up n d * d
rounded_up-reaches n d some = let h = lt-div-mul-add {a = n + (d - 1)} {b = d} some in omega arith

-- what the numbers of the chosen ones come to, each rounded up and cut off at the bound
joined : (chosen : Bool) (bound d number up coefficients numbers : ℕ) → number ≤ up * d → (bound ≤ coefficients) ⊎ (numbers ≤ coefficients * d)
    → (bound ≤ (if chosen then min bound up else 0) + coefficients) ⊎ ((if chosen then number else 0) + numbers ≤ ((if chosen then min bound up else 0) + coefficients) * d)
joined chosen bound d number up coefficients numbers reaches (inl enough) = inl (omega arith)
joined false bound d number up coefficients numbers reaches (inr more) = inr (let e = add-mul 0 coefficients d in omega arith)
joined true bound d number up coefficients numbers reaches (inr more) =
    elim (cases_lt up bound) [
      | inr le ↦ inl (omega arith)
      | inl less ↦
          let is : min bound up ≡ up = omega arith in
          inr (rw is (let e = add-mul up coefficients d in omega arith))
    ]

chosen_coefficients : (bound d : ℕ) (number : CandidateOf → ℕ) (candidates : List CandidateOf) (plan : List Bool) → 0 < d
    → (bound ≤ chosen_sum (map (λ c. min bound (rounded_up (number c) d)) candidates) plan)
    ⊎ (chosen_sum (map number candidates) plan ≤ chosen_sum (map (λ c. min bound (rounded_up (number c) d)) candidates) plan * d)
chosen_coefficients bound d number [] plan some = inr (omega arith)
chosen_coefficients bound d number (candidate ∷ rest) [] some = inr (omega arith)
chosen_coefficients bound d number (candidate ∷ rest) (chosen ∷ plan) some =
    joined chosen bound d (number candidate) (rounded_up (number candidate) d)
    (chosen_sum (map (λ c. min bound (rounded_up (number c) d)) rest) plan) (chosen_sum (map number rest) plan)
    (rounded_up-reaches (number candidate) d some) (chosen_coefficients bound d number rest plan some)

-- ---- the law
load-nonneg : (squares : List SquareOf) (x : Displaced) → All (λ square. pos 1 ≤ℤ square.beta) squares → pos 0 ≤ℤ load squares x
load-nonneg squares x low = subst (λ (s : List SquareOf). pos 0 ≤ℤ load s x) (take-length squares) (load_take-nonneg (length squares) squares x low)

reached : (z e : ℤ) (m : ℕ) → pos 0 ≤ℤ z → z ≤ℤ e → pos m ≡ e → unsigned_abs z ≤ m
reached z e m low high is = omega (arith, ints)

pub meeting_plan-satisfies : (network : NetworkOf) (limit : LimitOf) (plan : List Bool) (x : Displaced) → IsNetwork network → IsLimit network limit → MeetsLimit network plan limit
    → Satisfies (cover_of network limit x) plan
meeting_plan-satisfies network limit plan x kept bounds meets =
    let n = length network.unknowns in
    let low : pos 0 ≤ℤ limit.alpha = le_trans (pos 0) (pos 1) limit.alpha (omega (arith, ints)) bounds.bounded.alpha_low in
    let energies = chosen_energies n network.candidates plan limit x kept.each_candidate low in
    let numbers = chosen_sum (map (energy_number limit x) network.candidates) plan in
    let over : load_number limit x ≤ numbers = reached (load limit.squares x) (limit.alpha *ℤ energy network.candidates plan x) numbers (load-nonneg limit.squares x bounds.bounded.beta_low) (meets x) energies in
    let d = divisor_of limit x in
    let coefficients = chosen_sum (map (coefficient_of limit x) network.candidates) plan in
    elim (chosen_coefficients (bound_of limit x) d (energy_number limit x) network.candidates plan (pow_pos (cut_shift (load_number limit x)))) [
      | inl enough ↦ enough
      | inr more ↦
          let flipped = mul_comm coefficients d in
          div-le_of_le-mul d (omega arith)
    ]
