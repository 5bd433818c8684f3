-- The whole numbers that stand for the coefficients of distances and directions, and for weights. They come
-- from the usual bearing equations of plane networks; the units and the rounding are this project's own.
use Rattle.std.specs.Prelude.{ℕ, zero, suc, ◌+◌, ◌-◌, ◌*◌, ◌^◌, ◌<◌, ◌≤◌, nat_le, Bool, ℤ, pos, negsuc, neg_ℤ, ◌≤ℤ◌, unsigned_abs, if◌then◌else◌}

-- what a coefficient of 1 is multiplied by before it is rounded
abbrev pub coefficient_scale : ℕ
coefficient_scale = 10000

-- one radian in cc, rounded
abbrev pub radian : ℕ
radian = 636620

-- the square of a number
abbrev pub square : ℕ → ℕ
square n = n * n

-- the square of the length of a line with these parts, in square millimetres
abbrev pub square_length : ℤ → ℤ → ℕ
square_length dx dy = square (unsigned_abs dx) + square (unsigned_abs dy)

-- (2 c - 1) ^ 2 * D is at most 4 * 10000 ^ 2 * part ^ 2: 10000 times the ratio of part to the length is c - 1/2 or more
abbrev pub ReachesCoefficient : ℕ → ℕ → ℕ → Type 0
ReachesCoefficient part length_squared c = square (2 * c - 1) * length_squared ≤ 4 * square coefficient_scale * square part

-- c is 10000 times part over the length of the line, rounded to the nearest, with the sign of part
pub record IsDistanceCoefficient (part : ℤ) (length_squared : ℕ) (c : ℤ) : Type 0 where
  pub not_negative : pos 0 ≤ℤ part → pos 0 ≤ℤ c
  pub not_positive : part ≤ℤ pos 0 → c ≤ℤ pos 0
  pub reached : 0 < unsigned_abs c → ReachesCoefficient (unsigned_abs part) length_squared (unsigned_abs c)
  pub next_above : 4 * square coefficient_scale * square (unsigned_abs part) < square (2 * unsigned_abs c + 1) * length_squared

-- the test of `ReachesCoefficient`
abbrev pub reaches : ℕ → ℕ → ℕ → Bool
reaches part length_squared c = nat_le (square (2 * c - 1) * length_squared) (4 * square coefficient_scale * square part)

-- the greatest number from 1 up to `most` that is reached, or 0
unfoldable pub greatest_reached : ℕ → ℕ → ℕ → ℕ
greatest_reached part length_squared zero = 0
greatest_reached part length_squared (suc most) = if reaches part length_squared (suc most) then suc most else greatest_reached part length_squared most

-- a size with the sign of a number
abbrev pub with_sign_of : ℤ → ℕ → ℤ
with_sign_of (pos n) size = pos size
with_sign_of (negsuc n) size = neg_ℤ (pos size)

-- the coefficient of a distance for one part of its line: 10000 times the cosine or the sine of the bearing
unfoldable pub distance_coefficient : ℤ → ℤ → ℤ → ℤ
distance_coefficient part dx dy = with_sign_of part (greatest_reached (unsigned_abs part) (square_length dx dy) coefficient_scale)

-- the greatest number q from 1 up to `most` with (2 q - 1) * d at most 2 * n, or 0: where n / d is at most `most`, it is n / d
-- rounded to the nearest, a half going up
unfoldable pub nearest_size : ℕ → ℕ → ℕ → ℕ
nearest_size n d zero = 0
nearest_size n d (suc most) = if nat_le ((2 * suc most - 1) * d) (2 * n) then suc most else nearest_size n d most

-- the coefficient of a direction for one part of its line: 10000 times the change of the bearing in cc by a mm, up to the sign
unfoldable pub direction_coefficient : ℤ → ℤ → ℤ → ℤ
direction_coefficient part dx dy = with_sign_of part (nearest_size (radian * coefficient_scale * unsigned_abs part) (square_length dx dy) radian)

-- the weight of an observation with a standard deviation of u hundredths of a mm or cc: 10 ^ 8 over the square of u
unfoldable pub weight_for : ℕ → ℤ
weight_for u = pos (nearest_size (10 ^ 8) (square u) 1000000)
