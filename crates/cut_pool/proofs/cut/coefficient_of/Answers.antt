use Rattle.std.proofs.Common.{rules, ◌≡◌, ℕ, ◌+◌, ◌-◌, ◌*◌, ◌/◌, ◌%◌, ◌^◌, ◌<◌, ◌≤◌, ℤ, pos, ◌*ℤ◌, ◌≤ℤ◌, w64, FitsSigned, ◌∙◌, ap, ap₂, arith, one-mul}
use mir.Syntax.{w128}
use Rattle.std.specs.Prelude.{unsigned_abs}
use Rattle.std.proofs.Math.Nat.{mod-eq_of_lt}
use Rattle.std.proofs.Math.Pow.{pow_mono}
use Rattle.std.proofs.lemmas.Int.{to_z-of_z, fits_signed_from_abs}
use Rattle.whole_algebra.specs.Matrices.{at}
use Rattle.whole_algebra.proofs.Order.{size-mul}
use Rattle.geo_model.specs.Candidate.{candidate_energy}
use Rattle.geo_model.proofs.SizeLemmas.{light}
use Rattle.cut_pool.specs.Cut.{rounded_up}
use Rattle.cut_pool.proofs.cut.coefficient_of.Goals as goal

-- the code's power of two
one_shifted : (s : ℕ) → s ≤ 96 → (1 * 2 ^ s) % 2 ^ 128 ≡ 2 ^ s
one_shifted s few = let low = pow_mono {i = s} {j = 96} few in ap (λ (p : ℕ). p % 2 ^ 128) (one-mul (2 ^ s)) ∙ mod-eq_of_lt (omega arith)

-- the numbers on the way
record IsNumber (alpha e : ℤ) : Type 0 where
  pub wide : FitsSigned w128 alpha
  pub energy : FitsSigned w128 e
  pub product : FitsSigned w128 (alpha *ℤ e)
  pub size : unsigned_abs (alpha *ℤ e) < 2 ^ 126

numbers : (alpha e : ℤ) → pos 1 ≤ℤ alpha → alpha ≤ℤ pos 1000000 → unsigned_abs e < 2 ^ 105 → IsNumber alpha e
numbers alpha e low high small =
    let factor = light alpha low high in
    let size = size-mul alpha e 1000000 (2 ^ 105) factor (omega arith) in
    record {
      wide = fits_signed_from_abs w128 alpha (omega arith);
      energy = fits_signed_from_abs w128 e (omega arith);
      product = fits_signed_from_abs w128 (alpha *ℤ e) (omega arith);
      size = omega arith;
    }

sum_small : (n z s : ℕ) → n ≡ z → z < 2 ^ 126 → s ≤ 96 → n + ((1 * 2 ^ s) % 2 ^ 128 - 1) < 2 ^ 128
sum_small n z s is small few = let e = one_shifted s few in let low = pow_mono {i = s} {j = 96} few in omega arith

up_is : (n z s : ℕ) → n ≡ z → s ≤ 96 → (n + ((1 * 2 ^ s) % 2 ^ 128 - 1)) / 2 ^ s ≡ rounded_up z (2 ^ s)
up_is n z s is few = ap₂ (λ (m p : ℕ). (m + (p - 1)) / 2 ^ s) is (one_shifted s few)

pub overflow_add-up : goal.overflow_add-up
overflow_add-up c =
    let s = numbers c.args.alpha c.candidate_energy.result c.requires.low c.requires.high c.candidate_energy.ensures.size in
    let f : FitsSigned w64 c.args.alpha = c.ranges.alpha in
    let a = s.wide in
    let b = s.energy in
    let d = s.product in
    let is = simp to_z-of_z at c.unsigned_abs-number.ensures.value in
    let fits = sum_small c.unsigned_abs-number.result (unsigned_abs (c.args.alpha *ℤ c.candidate_energy.result)) c.args.shift is s.size c.requires.shift in
    search rules

pub returns-then-up-from : goal.returns-then-up-from
returns-then-up-from c =
    let s = numbers c.args.alpha c.candidate_energy.result c.requires.low c.requires.high c.candidate_energy.ensures.size in
    let f : FitsSigned w64 c.args.alpha = c.ranges.alpha in
    let a = s.wide in
    let b = s.energy in
    let d = s.product in
    let is = simp to_z-of_z at c.unsigned_abs-number.ensures.value in
    let up = up_is c.unsigned_abs-number.result (unsigned_abs (c.args.alpha *ℤ candidate_energy c.args.candidate.now (at c.args.x.now))) c.args.shift (is ∙ ap (λ (z : ℤ). unsigned_abs (c.args.alpha *ℤ z)) c.candidate_energy.ensures.value) c.requires.shift in
    omega (arith, up)

pub returns-else-up-from : goal.returns-else-up-from
returns-else-up-from c =
    let s = numbers c.args.alpha c.candidate_energy.result c.requires.low c.requires.high c.candidate_energy.ensures.size in
    let f : FitsSigned w64 c.args.alpha = c.ranges.alpha in
    let a = s.wide in
    let b = s.energy in
    let d = s.product in
    let is = simp to_z-of_z at c.unsigned_abs-number.ensures.value in
    let up = up_is c.unsigned_abs-number.result (unsigned_abs (c.args.alpha *ℤ candidate_energy c.args.candidate.now (at c.args.x.now))) c.args.shift (is ∙ ap (λ (z : ℤ). unsigned_abs (c.args.alpha *ℤ z)) c.candidate_energy.ensures.value) c.requires.shift in
    omega (arith, up)
