-- The coefficients of directions along far lines, and the weights of generated networks.
use Rattle.std.proofs.Common.{◌≡◌, ℕ, ◌+◌, ◌*◌, ◌^◌, ◌≤◌, ◌⊎◌, inl, inr, arith, ℤ, pos, negsuc, ◌*ℤ◌, ◌≤ℤ◌, ◌<ℤ◌}
use Rattle.std.specs.Prelude.{unsigned_abs}
use Rattle.std.proofs.lemmas.Int.{ints}
use Rattle.std.proofs.lemmas.Nat.{mul-le}
use Rattle.geo_base.specs.Division.{IsNearest}
use Rattle.whole_algebra.proofs.Order.{le_antisym}
use Rattle.coefficient_round.specs.Coefficient.{radian, coefficient_scale, square, square_length, direction_coefficient, weight_for}
use Rattle.coefficient_round.proofs.Bounds.{nearest-at_least, nearest-at_most, direction_coefficient-IsNearest, weight_for-IsNearest}
use Rattle.gen_law.proofs.Squares.{line_room}

-- a part beside one of 800 m and more
part_beside : (a b : ℕ) → 800000 ≤ b → 1600000 * a ≤ a * a + b * b
part_beside a b far = omega (arith, ints, line_room (pos a) (pos b) (pos 800000) (omega (arith, ints)) (omega (arith, ints)))

-- the same of a line both of whose parts are that long
part_in_line : (part dx dy : ℤ) → (part ≡ dx) ⊎ (part ≡ dy) → 800000 ≤ unsigned_abs dx → 800000 ≤ unsigned_abs dy → 1600000 * unsigned_abs part ≤ square_length dx dy
part_in_line part dx dy (inl is) far_x far_y = rw is (part_beside (unsigned_abs dx) (unsigned_abs dy) far_y)
part_in_line part dx dy (inr is) far_x far_y = rw is (omega (arith, part_beside (unsigned_abs dy) (unsigned_abs dx) far_x))

far_line : (dx dy : ℤ) → 800000 ≤ unsigned_abs dx → 10 ^ 8 ≤ square_length dx dy
far_line dx dy far_x =
    let long : 800000 * 800000 ≤ square (unsigned_abs dx) = mul-le 800000 800000 (unsigned_abs dx) (unsigned_abs dx) far_x far_x in omega arith

small_nearest : (part : ℤ) (d : ℕ) (q : ℤ) → 10 ^ 8 ≤ d → 1600000 * unsigned_abs part ≤ d → IsNearest (pos (radian * coefficient_scale) *ℤ part) (pos d) q → unsigned_abs q ≤ 5000
small_nearest part d q long room near =
    let some : pos 0 <ℤ pos d = omega (arith, ints) in
    let below : (negsuc 4999 *ℤ pos d) ≤ℤ (pos (radian * coefficient_scale) *ℤ part) = omega (arith, ints) in
    let above : (pos (radian * coefficient_scale) *ℤ part) ≤ℤ (pos 5000 *ℤ pos d) = omega (arith, ints) in
    omega (arith, ints, nearest-at_least (pos (radian * coefficient_scale) *ℤ part) (pos d) q (negsuc 4999) some near below, nearest-at_most (pos (radian * coefficient_scale) *ℤ part) (pos d) q (pos 5000) some near above)

pub far_direction-small : (part dx dy : ℤ) → (part ≡ dx) ⊎ (part ≡ dy) → 800000 ≤ unsigned_abs dx → 800000 ≤ unsigned_abs dy → unsigned_abs (direction_coefficient part dx dy) ≤ 5000
far_direction-small part dx dy of_line far_x far_y =
    small_nearest part (square_length dx dy) (direction_coefficient part dx dy) (far_line dx dy far_x) (part_in_line part dx dy of_line far_x far_y)
    (direction_coefficient-IsNearest part dx dy of_line (far_line dx dy far_x))

-- a weight lies between whole numbers that its quotient lies between
weight-at_least : (u low : ℕ) → 10 ≤ u → low * square u ≤ 10 ^ 8 → pos low ≤ℤ weight_for u
weight-at_least u low least bound =
    let some : 100 ≤ square u = mul-le 10 10 u u least least in
    nearest-at_least (pos (10 ^ 8)) (pos (square u)) (weight_for u) (pos low) (omega (arith, ints)) (weight_for-IsNearest u least) (omega (arith, ints))

weight-at_most : (u high : ℕ) → 10 ≤ u → 10 ^ 8 ≤ high * square u → weight_for u ≤ℤ pos high
weight-at_most u high least bound =
    let some : 100 ≤ square u = mul-le 10 10 u u least least in
    nearest-at_most (pos (10 ^ 8)) (pos (square u)) (weight_for u) (pos high) (omega (arith, ints)) (weight_for-IsNearest u least) (omega (arith, ints))

pub weight_of_10 : weight_for 1000 ≡ pos 100
weight_of_10 = le_antisym (weight_for 1000) (pos 100) (weight-at_most 1000 100 (omega arith) (omega arith)) (weight-at_least 1000 100 (omega arith) (omega arith))

pub weight_of_15 : (pos 44 ≤ℤ weight_for 1500) × (weight_for 1500 ≤ℤ pos 45)
weight_of_15 = (weight-at_least 1500 44 (omega arith) (omega arith), weight-at_most 1500 45 (omega arith) (omega arith))

pub weight_of_8 : (pos 1 ≤ℤ weight_for 800) × (weight_for 800 ≤ℤ pos 157)
weight_of_8 = (weight-at_least 800 1 (omega arith) (omega arith), weight-at_most 800 157 (omega arith) (omega arith))
