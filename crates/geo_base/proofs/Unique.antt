-- Shifts, exponents and roots are the only numbers that meet their inequalities.
use Rattle.std.proofs.Common.{◌≡◌, ℕ, suc, ◌+◌, ◌*◌, ◌^◌, ◌<◌, ◌≤◌, arith, ap, sym, ◌∙◌, inl, inr}
use Rattle.std.specs.Prelude.{ℤ, pos, negsuc, ◌<ℤ◌}
use Rattle.std.proofs.lemmas.Int.{ints}
use Rattle.std.proofs.lemmas.Bool.{cases_lt}
use Rattle.std.proofs.lemmas.Nat.{mul-le, pow-add, pow_pos}
use Rattle.std.proofs.Math.Nat.{pow-le-pow_right, mul-le-mul_left}
use Rattle.geo_base.specs.Grid.{IsShifted, IsExponent}
use Rattle.geo_base.specs.Root.{IsRoot}
use Rattle.geo_base.proofs.Rounding.{IsFloor-unique}

pub IsShifted-unique : (n e p q : ℤ) → IsShifted n e p → IsShifted n e q → p ≡ q
IsShifted-unique n (pos k) p q one other = IsFloor-unique n (pos (2 ^ k)) p q (let some : 0 < 2 ^ k = pow_pos k in omega (arith, ints)) one other
IsShifted-unique n (negsuc k) p q one other = one ∙ sym other

power_grows : (i j : ℕ) → i ≤ j → 2 ^ i ≤ 2 ^ j
power_grows i j le = pow-le-pow_right {n = 2} (omega arith) le

-- ---- exponents: of a number's exponents none is the larger

-- both at least 0
above_order : (a i j : ℕ) → 2 ^ (58 + 2 * i) ≤ a → a < 2 ^ (60 + 2 * j) → i ≤ j
above_order a i j low high = elim (cases_lt j i) [
  | inl less ↦ absurd (let power : 2 ^ (60 + 2 * j) ≤ 2 ^ (58 + 2 * i) = power_grows (60 + 2 * j) (58 + 2 * i) (omega arith) in omega arith)
  | inr le ↦ le
]

-- both below 0
below_order : (a i j : ℕ) → 2 ^ 58 ≤ a * 2 ^ (2 * suc i) → a * 2 ^ (2 * suc j) < 2 ^ 60 → j ≤ i
below_order a i j low high = elim (cases_lt i j) [
  | inl less ↦ absurd (
      let power : 2 ^ (2 * suc i + 2) ≤ 2 ^ (2 * suc j) = power_grows (2 * suc i + 2) (2 * suc j) (omega arith) in
      let times : a * 2 ^ (2 * suc i + 2) ≤ a * 2 ^ (2 * suc j) = mul-le-mul_left a power in
      let four : a * 2 ^ (2 * suc i + 2) ≡ a * (2 ^ (2 * suc i) * 4) = ap (λ t. a * t) (pow-add 2 (2 * suc i) 2) in
      omega (arith, four))
  | inr le ↦ le
]

-- one of each
mixed_order : (a i j : ℕ) → 2 ^ (58 + 2 * i) ≤ a → a * 2 ^ (2 * suc j) < 2 ^ 60 → ⊥
mixed_order a i j low high =
    let number : 2 ^ 58 ≤ 2 ^ (58 + 2 * i) = power_grows 58 (58 + 2 * i) (omega arith) in
    let factor : 2 ^ 2 ≤ 2 ^ (2 * suc j) = power_grows 2 (2 * suc j) (omega arith) in
    let times : a * 4 ≤ a * 2 ^ (2 * suc j) = mul-le-mul_left a factor in
    omega arith

exponent-unique : (a : ℕ) (e f : ℤ) → IsExponent (pos a) e → IsExponent (pos a) f → e ≡ f
exponent-unique a (pos i) (pos j) one other =
    let first = above_order a i j (omega (arith, ints, one.0)) (omega (arith, ints, other.1)) in
    let second = above_order a j i (omega (arith, ints, other.0)) (omega (arith, ints, one.1)) in
    omega (arith, ints)
exponent-unique a (pos i) (negsuc j) one other = absurd (mixed_order a i j (omega (arith, ints, one.0)) (omega (arith, ints, other.1)))
exponent-unique a (negsuc i) (pos j) one other = absurd (mixed_order a j i (omega (arith, ints, other.0)) (omega (arith, ints, one.1)))
exponent-unique a (negsuc i) (negsuc j) one other =
    let first = below_order a i j (omega (arith, ints, one.0)) (omega (arith, ints, other.1)) in
    let second = below_order a j i (omega (arith, ints, other.0)) (omega (arith, ints, one.1)) in
    omega (arith, ints)

pub IsExponent-unique : (v e f : ℤ) → pos 0 <ℤ v → IsExponent v e → IsExponent v f → e ≡ f
IsExponent-unique (pos a) e f some one other = exponent-unique a e f one other
IsExponent-unique (negsuc a) e f some one other = absurd (omega (arith, ints))

-- ---- roots

root_order : (n r s : ℕ) → IsRoot n r → IsRoot n s → r ≤ s
root_order n r s one other = elim (cases_lt s r) [
  | inl less ↦ absurd (let squares : (s + 1) * (s + 1) ≤ r * r = mul-le (s + 1) (s + 1) r r (omega arith) (omega arith) in omega (arith, one.reached, other.next_above))
  | inr le ↦ le
]

pub IsRoot-unique : (n r s : ℕ) → IsRoot n r → IsRoot n s → r ≡ s
IsRoot-unique n r s one other = omega (arith, root_order n r s one other, root_order n s r other one)
