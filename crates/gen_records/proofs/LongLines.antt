-- The lines between new and fixed points are long in both their parts.
use Rattle.std.proofs.Common.{◌≡◌, ◌<◌, ◌≤◌, ◌+◌, ◌*◌, ℕ, List, ◌⊎◌, inl, inr, refl, arith, ℤ, pos, ◌-ℤ◌}
use Rattle.std.specs.Prelude.{unsigned_abs}
use Rattle.std.proofs.lemmas.Int.{ints}
use Rattle.point_tables.specs.declared.record.PointRecord.{PointRecord}
use Rattle.point_tables.specs.Coordinates.{x_at, y_at}
use Rattle.gen_net.specs.Draws.{drawn}
use Rattle.gen_records.specs.Records.{fixed_point, new_point, point_records}
use Rattle.gen_records.proofs.CountFacts.{drawn-below}

-- each part of the line is from 800 m to 5 km long
pub record IsLong (points : List PointRecord) (a b : ℕ) : Type 0 where
  pub x_low : 800000 ≤ unsigned_abs (x_at points b -ℤ x_at points a)
  pub x_high : unsigned_abs (x_at points b -ℤ x_at points a) ≤ 5000000
  pub y_low : 800000 ≤ unsigned_abs (y_at points b -ℤ y_at points a)
  pub y_high : unsigned_abs (y_at points b -ℤ y_at points a) ≤ 5000000

-- coordinates in metres that are 1 km apart and at most 4 km
abbrev pub AreApart : ℕ → ℕ → Type 0
AreApart n f = ((n + 1000 ≤ f) × (f ≤ n + 4000)) ⊎ ((f + 1000 ≤ n) × (n ≤ f + 4000))

pub record IsPartLong (z : ℤ) : Type 0 where
  pub low : 800000 ≤ unsigned_abs z
  pub high : unsigned_abs z ≤ 5000000

part-long : (n f p q : ℕ) → p < 200000 → q < 200000 → AreApart n f → IsPartLong (pos (1000 * f + q) -ℤ pos (1000 * n + p))
part-long n f p q hp hq (inl h) = record { low = omega (arith, ints); high = omega (arith, ints) }
part-long n f p q hp hq (inr h) = record { low = omega (arith, ints); high = omega (arith, ints) }

-- a line between two points whose coordinates are drawn
pub drawn-long : (points : List PointRecord) (a b : ℕ) (nx ny fx fy px py qx qy : ℕ)
    → x_at points a ≡ pos (1000 * nx + px) → y_at points a ≡ pos (1000 * ny + py) → x_at points b ≡ pos (1000 * fx + qx) → y_at points b ≡ pos (1000 * fy + qy)
    → px < 200000 → py < 200000 → qx < 200000 → qy < 200000 → AreApart nx fx → AreApart ny fy → IsLong points a b
drawn-long points a b nx ny fx fy px py qx qy xa ya xb yb hpx hpy hqx hqy apart_x apart_y =
    let in_x = part-long nx fx px qx hpx hqx apart_x in
    let in_y = part-long ny fy py qy hpy hqy apart_y in
    record {
      x_low = rw (xa, xb) in_x.low;
      x_high = rw (xa, xb) in_x.high;
      y_low = rw (ya, yb) in_y.low;
      y_high = rw (ya, yb) in_y.high;
    }

below-more : (seed place : ℕ) → drawn seed place 100000 < 200000
below-more seed place = below (drawn seed place 100000) (drawn-below seed place 100000 (omega arith))
  where
    below : (d : ℕ) → d < 100000 → d < 200000
    below d h = omega arith

-- where a point of the records lies: its coordinates in metres, and what is added to them
pub record LiesAt (seed place x y : ℕ) : Type 0 where
  pub in_x : ℕ
  pub in_y : ℕ
  pub x_is : x_at (point_records seed) place ≡ pos (1000 * x + in_x)
  pub y_is : y_at (point_records seed) place ≡ pos (1000 * y + in_y)
  pub x_below : in_x < 200000
  pub y_below : in_y < 200000

pub F1-lies : (seed : ℕ) → LiesAt seed 0 1000 1000
unfolding x_at y_at point_records fixed_point
F1-lies seed = record { in_x = drawn seed 0 100000; in_y = drawn seed 1 100000; x_is = refl; y_is = refl; x_below = below-more seed 0; y_below = below-more seed 1 }

pub F2-lies : (seed : ℕ) → LiesAt seed 1 1000 5000
unfolding x_at y_at point_records fixed_point
F2-lies seed = record { in_x = drawn seed 3 100000; in_y = drawn seed 4 100000; x_is = refl; y_is = refl; x_below = below-more seed 3; y_below = below-more seed 4 }

pub F3-lies : (seed : ℕ) → LiesAt seed 2 5000 1000
unfolding x_at y_at point_records fixed_point
F3-lies seed = record { in_x = drawn seed 6 100000; in_y = drawn seed 7 100000; x_is = refl; y_is = refl; x_below = below-more seed 6; y_below = below-more seed 7 }

pub F4-lies : (seed : ℕ) → LiesAt seed 3 5000 5000
unfolding x_at y_at point_records fixed_point
F4-lies seed = record { in_x = drawn seed 9 100000; in_y = drawn seed 10 100000; x_is = refl; y_is = refl; x_below = below-more seed 9; y_below = below-more seed 10 }

new-below : (seed place : ℕ) → drawn seed place 200000 < 200000
new-below seed place = drawn-below seed place 200000 (omega arith)

pub N1-lies : (seed : ℕ) → LiesAt seed 4 2000 2000
unfolding x_at y_at point_records new_point
N1-lies seed = record { in_x = drawn seed 12 200000; in_y = drawn seed 13 200000; x_is = refl; y_is = refl; x_below = new-below seed 12; y_below = new-below seed 13 }

pub N2-lies : (seed : ℕ) → LiesAt seed 5 2000 4000
unfolding x_at y_at point_records new_point
N2-lies seed = record { in_x = drawn seed 17 200000; in_y = drawn seed 18 200000; x_is = refl; y_is = refl; x_below = new-below seed 17; y_below = new-below seed 18 }

pub N3-lies : (seed : ℕ) → LiesAt seed 6 3000 3000
unfolding x_at y_at point_records new_point
N3-lies seed = record { in_x = drawn seed 22 200000; in_y = drawn seed 23 200000; x_is = refl; y_is = refl; x_below = new-below seed 22; y_below = new-below seed 23 }

pub N4-lies : (seed : ℕ) → LiesAt seed 7 4000 2000
unfolding x_at y_at point_records new_point
N4-lies seed = record { in_x = drawn seed 27 200000; in_y = drawn seed 28 200000; x_is = refl; y_is = refl; x_below = new-below seed 27; y_below = new-below seed 28 }

pub N5-lies : (seed : ℕ) → LiesAt seed 8 4000 4000
unfolding x_at y_at point_records new_point
N5-lies seed = record { in_x = drawn seed 32 200000; in_y = drawn seed 33 200000; x_is = refl; y_is = refl; x_below = new-below seed 32; y_below = new-below seed 33 }

-- the line between two such points
pub line-long : (seed a b x y x' y' : ℕ) → LiesAt seed a x y → LiesAt seed b x' y' → AreApart x x' → AreApart y y' → IsLong (point_records seed) a b
line-long seed a b x y x' y' at_a at_b apart_x apart_y =
    drawn-long (point_records seed) a b x y x' y' at_a.in_x at_a.in_y at_b.in_x at_b.in_y at_a.x_is at_a.y_is at_b.x_is at_b.y_is
    at_a.x_below at_a.y_below at_b.x_below at_b.y_below apart_x apart_y

-- metres that are apart, by the greater one
pub above : (n f : ℕ) → n + 1000 ≤ f → f ≤ n + 4000 → AreApart n f
above n f h k = inl (h, k)

pub below : (n f : ℕ) → f + 1000 ≤ n → n ≤ f + 4000 → AreApart n f
below n f h k = inr (h, k)
