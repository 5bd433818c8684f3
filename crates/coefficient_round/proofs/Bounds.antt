-- The nearest number lies between whole bounds of the quotient; the parts of a line are at most as long as it.
use Rattle.std.proofs.Common.{◌≡◌, ℕ, zero, suc, ◌+◌, ◌-◌, ◌*◌, ◌^◌, ◌<◌, ◌≤◌, cond, ap, sym, subst, arith, inl, inr, ◌⊎◌}
use Rattle.std.specs.Prelude.{ℤ, pos, negsuc, ◌+ℤ◌, ◌*ℤ◌, ◌≤ℤ◌, ◌<ℤ◌, unsigned_abs}
use Rattle.std.proofs.lemmas.Bool.{cases_lt, le-leb, lt-leb}
use Rattle.std.proofs.lemmas.Int.{ints, by_lt_z}
use Rattle.std.proofs.lemmas.Nat.{mul-le}
use Rattle.geo_base.specs.Division.{IsFloor, IsNearest}
use Rattle.geo_base.proofs.Rounding.{mul_keeps_order, add-*ℤ, half_up_IsNearest, IsNearest-neg}
use Rattle.std.proofs.Math.Nat.{add-mul, mul-add, mul_assoc}
use Rattle.coefficient_round.specs.Coefficient.{radian, coefficient_scale, square, square_length, nearest_size, direction_coefficient, weight_for}

-- a number less than z is at least one step of d below it
step_below : (d q z : ℤ) → pos 0 <ℤ d → q <ℤ z → (q *ℤ d +ℤ d) ≤ℤ (z *ℤ d)
step_below d q z some less =
    let order : ((q +ℤ pos 1) *ℤ d) ≤ℤ (z *ℤ d) = mul_keeps_order (q +ℤ pos 1) z d (omega (arith, ints)) (omega (arith, ints)) in
    let one : pos 1 *ℤ d ≡ d = omega (arith, ints) in
    omega (arith, ints, add-*ℤ q (pos 1) d)

pub nearest-at_least : (n d q low : ℤ) → pos 0 <ℤ d → IsNearest n d q → (low *ℤ d) ≤ℤ n → low ≤ℤ q
nearest-at_least n d q low some near bound = by_lt_z q low
    (λ less. absurd (let step = step_below d q low some less in omega (arith, ints, near.closest low)))
    (λ le. le)

pub nearest-at_most : (n d q high : ℤ) → pos 0 <ℤ d → IsNearest n d q → n ≤ℤ (high *ℤ d) → q ≤ℤ high
nearest-at_most n d q high some near bound = by_lt_z high q
    (λ less. absurd (let step = step_below d high q some less in omega (arith, ints, near.closest high)))
    (λ le. le)

-- a part of a line is at most as long as the line
pub part-within : (part dx dy : ℤ) → (part ≡ dx) ⊎ (part ≡ dy) → square (unsigned_abs part) ≤ square_length dx dy
part-within part dx dy (inl is) = rw is (omega arith)
part-within part dx dy (inr is) = rw is (omega arith)

-- the square of a part over the part is the part: a long line has a short part over its square
pub part_room : (a d : ℕ) → square a ≤ d → 10 ^ 8 ≤ d → a * 10000 ≤ d
part_room a d within long = elim (cases_lt a 10000) [
  | inl short ↦ omega arith
  | inr more ↦ let rows : a * 10000 ≤ square a = mul-le a 10000 a a (omega arith) more in omega arith
]

-- the coefficient of a direction is at most a radian's
pub direction-size : (part : ℤ) (d : ℕ) (q : ℤ) → square (unsigned_abs part) ≤ d → 10 ^ 8 ≤ d → IsNearest (pos (radian * coefficient_scale) *ℤ part) (pos d) q → unsigned_abs q ≤ radian
direction-size part d q within long near =
    let room : unsigned_abs part * 10000 ≤ d = part_room (unsigned_abs part) d within long in
    let some : pos 0 <ℤ pos d = omega (arith, ints) in
    let below : (negsuc 636619 *ℤ pos d) ≤ℤ (pos (radian * coefficient_scale) *ℤ part) = omega (arith, ints) in
    let above : (pos (radian * coefficient_scale) *ℤ part) ≤ℤ (pos 636620 *ℤ pos d) = omega (arith, ints) in
    omega (arith, ints, nearest-at_least (pos (radian * coefficient_scale) *ℤ part) (pos d) q (negsuc 636619) some near below, nearest-at_most (pos (radian * coefficient_scale) *ℤ part) (pos d) q (pos 636620) some near above)

pub record IsWeightSize (w : ℤ) : Type 0 where
  pub least : pos 1 ≤ℤ w
  pub most : w ≤ℤ pos 1000000

-- a weight is from 1 to 1000000
pub weight-size : (u : ℕ) (q : ℤ) → 10 ≤ u → u ≤ 10000 → IsNearest (pos (10 ^ 8)) (pos (square u)) q → IsWeightSize q
weight-size u q least most near =
    let low : 100 ≤ square u = mul-le 10 10 u u least least in
    let high : square u ≤ 10000 * 10000 = mul-le u u 10000 10000 most most in
    let some : pos 0 <ℤ pos (square u) = omega (arith, ints) in
    let below : (pos 1 *ℤ pos (square u)) ≤ℤ pos (10 ^ 8) = omega (arith, ints) in
    let above : pos (10 ^ 8) ≤ℤ (pos 1000000 *ℤ pos (square u)) = omega (arith, ints) in
    record { least = nearest-at_least (pos (10 ^ 8)) (pos (square u)) q (pos 1) some near below; most = nearest-at_most (pos (10 ^ 8)) (pos (square u)) q (pos 1000000) some near above }

-- ---- the nearest size

-- where the number past the last is too large, n / d plus a half, rounded down, is the nearest size
pub record IsHalfUp (n d c : ℕ) : Type 0 where
  pub reached : 0 < c → (2 * c - 1) * d ≤ 2 * n
  pub next_above : 2 * n < (2 * c + 1) * d

nearest_size-IsHalfUp : (n d most : ℕ) → 2 * n < (2 * most + 1) * d → IsHalfUp n d (nearest_size n d most)
unfolding nearest_size
nearest_size-IsHalfUp n d zero large = record { reached = λ some. absurd (omega arith); next_above = large }
nearest_size-IsHalfUp n d (suc most) large = elim (cases_lt (2 * n) ((2 * suc most - 1) * d)) [
  | inl more ↦
      let same : nearest_size n d (suc most) ≡ nearest_size n d most = ap (λ b. cond b (suc most) (nearest_size n d most)) (lt-leb ((2 * suc most - 1) * d) (2 * n) more) in
      let odd : 2 * suc most - 1 ≡ 2 * most + 1 = omega arith in
      let less : 2 * n < (2 * most + 1) * d = subst (λ k. 2 * n < k * d) odd more in
      subst (IsHalfUp n d) (sym same) (nearest_size-IsHalfUp n d most less)
  | inr here ↦
      let same : nearest_size n d (suc most) ≡ suc most = ap (λ b. cond b (suc most) (nearest_size n d most)) (le-leb ((2 * suc most - 1) * d) (2 * n) here) in
      subst (IsHalfUp n d) (sym same) (record { reached = λ some. here; next_above = large })
]

odd_times : (c d : ℕ) → (2 * c + 1) * d ≡ 2 * (c * d) + d
odd_times c d = omega (arith, add-mul (2 * c) 1 d, mul_assoc 2 c d)

even_times : (c d : ℕ) → c * (2 * d) ≡ 2 * (c * d)
even_times c d = omega (arith, mul-add c d d)

half_up-reached : (n d c : ℕ) → IsHalfUp n d c → c * (2 * d) ≤ 2 * n + d
half_up-reached n d zero half = omega arith
half_up-reached n d (suc c) half =
    let odd : 2 * suc c - 1 ≡ 2 * c + 1 = omega arith in
    let reached : (2 * c + 1) * d ≤ 2 * n = subst (λ k. k * d ≤ 2 * n) odd (half.reached (omega arith)) in
    omega (arith, odd_times c d, even_times (suc c) d, add-mul c 1 d)

half_up-next : (n d c : ℕ) → IsHalfUp n d c → 2 * n + d < (c + 1) * (2 * d)
half_up-next n d c half = omega (arith, half.next_above, odd_times c d, even_times (c + 1) d, add-mul c 1 d)

half_up-IsFloor : (n d c : ℕ) → IsHalfUp n d c → IsFloor (pos 2 *ℤ pos n +ℤ pos d) (pos 2 *ℤ pos d) (pos c)
half_up-IsFloor n d c half = record { reached = omega (arith, ints, half_up-reached n d c half); next_above = omega (arith, ints, half_up-next n d c half) }

pub nearest_size-IsNearest : (n d most : ℕ) → 0 < d → 2 * n < (2 * most + 1) * d → IsNearest (pos n) (pos d) (pos (nearest_size n d most))
nearest_size-IsNearest n d most some large =
    half_up_IsNearest (pos n) (pos d) (pos (nearest_size n d most)) (omega (arith, ints)) (omega (arith, ints))
    (half_up-IsFloor n d (nearest_size n d most) (nearest_size-IsHalfUp n d most large)) (omega (arith, ints))

-- of a part that is short over the square of its line, the greatest size is large enough
direction_room : (a d : ℕ) → square a ≤ d → 10 ^ 8 ≤ d → 2 * (radian * coefficient_scale * a) < (2 * radian + 1) * d
direction_room a d within long = omega (arith, part_room a d within long)

pub direction_coefficient-IsNearest : (part dx dy : ℤ) → (part ≡ dx) ⊎ (part ≡ dy) → 10 ^ 8 ≤ square_length dx dy → IsNearest (pos (radian * coefficient_scale) *ℤ part) (pos (square_length dx dy)) (direction_coefficient part dx dy)
unfolding direction_coefficient
direction_coefficient-IsNearest (pos a) dx dy of_line long =
    let room = direction_room a (square_length dx dy) (part-within (pos a) dx dy of_line) long in
    nearest_size-IsNearest (radian * coefficient_scale * a) (square_length dx dy) radian (omega arith) room
direction_coefficient-IsNearest (negsuc a) dx dy of_line long =
    let room = direction_room (suc a) (square_length dx dy) (part-within (negsuc a) dx dy of_line) long in
    IsNearest-neg (pos (radian * coefficient_scale * suc a)) (pos (square_length dx dy)) (pos (nearest_size (radian * coefficient_scale * suc a) (square_length dx dy) radian))
    (nearest_size-IsNearest (radian * coefficient_scale * suc a) (square_length dx dy) radian (omega arith) room)

pub direction_coefficient-size : (part dx dy : ℤ) → (part ≡ dx) ⊎ (part ≡ dy) → 10 ^ 8 ≤ square_length dx dy → unsigned_abs (direction_coefficient part dx dy) ≤ radian
direction_coefficient-size part dx dy of_line long =
    direction-size part (square_length dx dy) (direction_coefficient part dx dy) (part-within part dx dy of_line) long (direction_coefficient-IsNearest part dx dy of_line long)

pub weight_for-IsNearest : (u : ℕ) → 10 ≤ u → IsNearest (pos (10 ^ 8)) (pos (square u)) (weight_for u)
unfolding weight_for
weight_for-IsNearest u least =
    let low : 100 ≤ square u = mul-le 10 10 u u least least in
    let room : 2 * 10 ^ 8 < (2 * 1000000 + 1) * square u = omega arith in
    nearest_size-IsNearest (10 ^ 8) (square u) 1000000 (omega arith) room

pub weight_for-size : (u : ℕ) → 10 ≤ u → u ≤ 10000 → IsWeightSize (weight_for u)
weight_for-size u least most = weight-size u (weight_for u) least most (weight_for-IsNearest u least)
