-- The root of a quotient gives the coefficient of a distance, and its inequalities allow one number alone.
use Rattle.std.proofs.Common.{◌≡◌, ℕ, zero, suc, ◌+◌, ◌-◌, ◌*◌, ◌/◌, ◌<◌, ◌≤◌, true, false, cond, arith, ap, sym, ◌∙◌, refl, subst, inl, inr, ◌⊎◌}
use Rattle.std.specs.Prelude.{ℤ, pos, negsuc, neg_ℤ, ◌≤ℤ◌, ◌<ℤ◌, unsigned_abs}
use Rattle.std.proofs.lemmas.Bool.{cases_lt, le-leb, lt-leb}
use Rattle.std.proofs.lemmas.Int.{ints, by_lt_z}
use Rattle.std.proofs.lemmas.Nat.{mul-le}
use Rattle.std.proofs.Math.Nat.{div-mul-le_self, lt-div-mul-add, mul-le-mul_right}
use Rattle.coefficient_round.specs.Coefficient.{coefficient_scale, square, square_length, ReachesCoefficient, IsDistanceCoefficient, reaches, greatest_reached, with_sign_of, distance_coefficient}
use Rattle.coefficient_round.proofs.Bounds.{part-within}

-- a larger number has a larger square
pub square_grows : (a b : ℕ) → a ≤ b → square a ≤ square b
square_grows a b le = mul-le a a b b le le

-- x over d has the root r, and c is half of r + 1
pub record IsHalfRoot (x d r c : ℕ) : Type 0 where
  pub some : 0 < d
  pub root : square r ≤ x / d
  pub next_root : x / d < square (r + 1)
  pub half : c ≡ (r + 1) / 2

pub half_root-reached : (x d r c : ℕ) → IsHalfRoot x d r c → 0 < c → square (2 * c - 1) * d ≤ x
half_root-reached x d r c is some =
    let half : c ≡ (r + 1) / 2 = is.half in
    let below : 2 * c - 1 ≤ r = omega arith in
    let squares : square (2 * c - 1) ≤ x / d = omega (arith, square_grows (2 * c - 1) r below, is.root) in
    let times : square (2 * c - 1) * d ≤ x / d * d = mul-le-mul_right d squares in
    omega (arith, div-mul-le_self x d)

pub half_root-next : (x d r c : ℕ) → IsHalfRoot x d r c → x < square (2 * c + 1) * d
half_root-next x d r c is =
    let half : c ≡ (r + 1) / 2 = is.half in
    let above : r + 1 ≤ 2 * c + 1 = omega arith in
    let squares : x / d + 1 ≤ square (2 * c + 1) = omega (arith, square_grows (r + 1) (2 * c + 1) above, is.next_root) in
    let times : (x / d + 1) * d ≤ square (2 * c + 1) * d = mul-le-mul_right d squares in
    omega (arith, lt-div-mul-add {a = x} is.some)

-- the coefficient of a part that is not longer than its line is at most the scale
pub half_root-size : (x d r c : ℕ) → IsHalfRoot x d r c → x ≤ 4 * square coefficient_scale * d → c ≤ coefficient_scale
half_root-size x d r c is short =
    let half : c ≡ (r + 1) / 2 = is.half in
    let ratio : x / d ≤ 4 * square coefficient_scale = elim (cases_lt (4 * square coefficient_scale) (x / d)) [
      | inl more ↦ absurd (let times : (4 * square coefficient_scale + 1) * d ≤ x / d * d = mul-le-mul_right d more in omega (arith, is.some, div-mul-le_self x d))
      | inr most ↦ most
    ] in
    let root : r ≤ 20000 = elim (cases_lt 20000 r) [
      | inl more ↦ absurd (let squares : square 20001 ≤ square r = square_grows 20001 r more in omega (arith, is.root))
      | inr most ↦ most
    ] in
    omega arith

-- what lies above the coefficient is not reached
too_large : (part d c k : ℕ) → 4 * square coefficient_scale * square part < square (2 * c + 1) * d → c < k → 4 * square coefficient_scale * square part < square (2 * k - 1) * d
too_large part d c k next above =
    let order : 2 * c + 1 ≤ 2 * k - 1 = omega arith in
    let times : square (2 * c + 1) * d ≤ square (2 * k - 1) * d = mul-le-mul_right d (square_grows (2 * c + 1) (2 * k - 1) order) in
    omega arith

pub greatest_reached-is : (part d most c : ℕ) → c ≤ most → (0 < c → ReachesCoefficient part d c) → 4 * square coefficient_scale * square part < square (2 * c + 1) * d → greatest_reached part d most ≡ c
unfolding greatest_reached
greatest_reached-is part d zero c within reached next = omega arith
greatest_reached-is part d (suc most) c within reached next = elim (cases_lt c (suc most)) [
  | inl below ↦
      let test : reaches part d (suc most) ≡ false = lt-leb (square (2 * suc most - 1) * d) (4 * square coefficient_scale * square part) (too_large part d c (suc most) next below) in
      ap (λ b. cond b (suc most) (greatest_reached part d most)) test ∙ greatest_reached-is part d most c (omega arith) reached next
  | inr here ↦
      let same : suc most ≡ c = omega arith in
      let at : ReachesCoefficient part d (suc most) = subst (ReachesCoefficient part d) (sym same) (reached (omega arith)) in
      let test : reaches part d (suc most) ≡ true = le-leb (square (2 * suc most - 1) * d) (4 * square coefficient_scale * square part) at in
      ap (λ b. cond b (suc most) (greatest_reached part d most)) test ∙ same
]

-- ---- the sign

pub with_sign_of-negative : (z : ℤ) (n : ℕ) → z <ℤ pos 0 → with_sign_of z n ≡ neg_ℤ (pos n)
with_sign_of-negative (pos m) n below = absurd (omega (arith, ints))
with_sign_of-negative (negsuc m) n below = refl

pub with_sign_of-not_negative : (z : ℤ) (n : ℕ) → pos 0 ≤ℤ z → with_sign_of z n ≡ pos n
with_sign_of-not_negative (pos m) n low = refl
with_sign_of-not_negative (negsuc m) n low = absurd (omega (arith, ints))

size-neg : (c : ℕ) → unsigned_abs (neg_ℤ (pos c)) ≡ c
size-neg zero = refl
size-neg (suc c) = refl

-- nothing is reached where the part is 0
none_reached : (d c : ℕ) → 0 < d → (0 < c → ReachesCoefficient 0 d c) → c ≡ 0
none_reached d zero some reached = refl
none_reached d (suc c) some reached =
    let at : square (2 * suc c - 1) * d ≤ 4 * square coefficient_scale * square 0 = reached (omega arith) in
    let one : square 1 * d ≤ square (2 * suc c - 1) * d = mul-le-mul_right d (square_grows 1 (2 * suc c - 1) (omega arith)) in
    absurd (omega arith)

-- the size with the sign of the part is the coefficient
pub signed_coefficient : (part : ℤ) (d c : ℕ) → 0 < d → (0 < c → ReachesCoefficient (unsigned_abs part) d c) → 4 * square coefficient_scale * square (unsigned_abs part) < square (2 * c + 1) * d → IsDistanceCoefficient part d (with_sign_of part c)
signed_coefficient (pos zero) d c some reached next =
    let none : c ≡ 0 = none_reached d c some reached in
    record { not_negative = λ low. omega (arith, ints); not_positive = λ low. omega (arith, ints); reached = reached; next_above = next }
signed_coefficient (pos (suc n)) d c some reached next =
    record { not_negative = λ low. omega (arith, ints); not_positive = λ low. absurd (omega (arith, ints)); reached = reached; next_above = next }
signed_coefficient (negsuc n) d c some reached next =
    record {
      not_negative = λ low. absurd (omega (arith, ints));
      not_positive = λ low. omega (arith, ints);
      reached = subst (λ k. 0 < k → ReachesCoefficient (suc n) d k) (sym (size-neg c)) reached;
      next_above = subst (λ k. 4 * square coefficient_scale * square (suc n) < square (2 * k + 1) * d) (sym (size-neg c)) next;
    }

-- ---- the greatest number that is reached

greatest_reached-below : (part d most : ℕ) → greatest_reached part d most ≤ most
unfolding greatest_reached
greatest_reached-below part d zero = omega arith
greatest_reached-below part d (suc most) = elim (cases_lt (4 * square coefficient_scale * square part) (square (2 * suc most - 1) * d)) [
  | inl more ↦ let same = ap (λ b. cond b (suc most) (greatest_reached part d most)) (lt-leb (square (2 * suc most - 1) * d) (4 * square coefficient_scale * square part) more) in
      omega (arith, same, greatest_reached-below part d most)
  | inr here ↦ let same = ap (λ b. cond b (suc most) (greatest_reached part d most)) (le-leb (square (2 * suc most - 1) * d) (4 * square coefficient_scale * square part) here) in
      omega (arith, same)
]

-- where the number past the last is too large, the greatest one is the coefficient's size
pub record IsGreatest (part d c : ℕ) : Type 0 where
  pub reached : 0 < c → ReachesCoefficient part d c
  pub next_above : 4 * square coefficient_scale * square part < square (2 * c + 1) * d

greatest_reached-facts : (part d most : ℕ) → 4 * square coefficient_scale * square part < square (2 * most + 1) * d → IsGreatest part d (greatest_reached part d most)
unfolding greatest_reached
greatest_reached-facts part d zero large = record { reached = λ some. absurd (omega arith); next_above = large }
greatest_reached-facts part d (suc most) large = elim (cases_lt (4 * square coefficient_scale * square part) (square (2 * suc most - 1) * d)) [
  | inl more ↦
      let same : greatest_reached part d (suc most) ≡ greatest_reached part d most = ap (λ b. cond b (suc most) (greatest_reached part d most)) (lt-leb (square (2 * suc most - 1) * d) (4 * square coefficient_scale * square part) more) in
      let odd : 2 * suc most - 1 ≡ 2 * most + 1 = omega arith in
      let less : 4 * square coefficient_scale * square part < square (2 * most + 1) * d = subst (λ k. 4 * square coefficient_scale * square part < square k * d) odd more in
      subst (IsGreatest part d) (sym same) (greatest_reached-facts part d most less)
  | inr here ↦
      let same : greatest_reached part d (suc most) ≡ suc most = ap (λ b. cond b (suc most) (greatest_reached part d most)) (le-leb (square (2 * suc most - 1) * d) (4 * square coefficient_scale * square part) here) in
      subst (IsGreatest part d) (sym same) (record { reached = λ some. here; next_above = large })
]

with_sign_of-size : (z : ℤ) (n : ℕ) → unsigned_abs (with_sign_of z n) ≡ n
with_sign_of-size (pos m) n = refl
with_sign_of-size (negsuc m) n = size-neg n

pub distance_coefficient-IsDistanceCoefficient : (part dx dy : ℤ) → (part ≡ dx) ⊎ (part ≡ dy) → 0 < square_length dx dy → IsDistanceCoefficient part (square_length dx dy) (distance_coefficient part dx dy)
unfolding distance_coefficient
distance_coefficient-IsDistanceCoefficient part dx dy of_line some =
    let within : square (unsigned_abs part) ≤ square_length dx dy = part-within part dx dy of_line in
    let large : 4 * square coefficient_scale * square (unsigned_abs part) < square (2 * coefficient_scale + 1) * square_length dx dy = omega arith in
    let facts = greatest_reached-facts (unsigned_abs part) (square_length dx dy) coefficient_scale large in
    signed_coefficient part (square_length dx dy) (greatest_reached (unsigned_abs part) (square_length dx dy) coefficient_scale) some facts.reached facts.next_above

pub distance_coefficient-size : (part dx dy : ℤ) → unsigned_abs (distance_coefficient part dx dy) ≤ coefficient_scale
unfolding distance_coefficient
distance_coefficient-size part dx dy =
    let size = with_sign_of-size part (greatest_reached (unsigned_abs part) (square_length dx dy) coefficient_scale) in
    omega (arith, size, greatest_reached-below (unsigned_abs part) (square_length dx dy) coefficient_scale)

-- of two sizes that the inequalities allow neither is the larger
sizes_apart : (part d a b : ℕ) → 4 * square coefficient_scale * square part < square (2 * a + 1) * d → (0 < b → ReachesCoefficient part d b) → a < b → ⊥
sizes_apart part d a b next reached less =
    let above = too_large part d a b next less in
    let at : ReachesCoefficient part d b = reached (omega arith) in
    omega (arith, above, at)

pub IsDistanceCoefficient-unique : (part : ℤ) (d : ℕ) (a b : ℤ) → IsDistanceCoefficient part d a → IsDistanceCoefficient part d b → a ≡ b
IsDistanceCoefficient-unique part d a b one other =
    let first : unsigned_abs b ≤ unsigned_abs a = elim (cases_lt (unsigned_abs a) (unsigned_abs b)) [ inl less ↦ absurd (sizes_apart (unsigned_abs part) d (unsigned_abs a) (unsigned_abs b) one.next_above other.reached less) | inr le ↦ le ] in
    let second : unsigned_abs a ≤ unsigned_abs b = elim (cases_lt (unsigned_abs b) (unsigned_abs a)) [ inl less ↦ absurd (sizes_apart (unsigned_abs part) d (unsigned_abs b) (unsigned_abs a) other.next_above one.reached less) | inr le ↦ le ] in
    by_lt_z part (pos 0)
    (λ below. let low : part ≤ℤ pos 0 = omega (arith, ints) in omega (arith, ints, one.not_positive low, other.not_positive low))
    (λ low. omega (arith, ints, one.not_negative low, other.not_negative low))
