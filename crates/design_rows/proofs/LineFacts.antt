-- The parts of a line, without the casts of the code.
use Rattle.std.proofs.Common.{arith, ◌≡◌, ◌∙◌, ◌<◌, ◌≤◌, ◌^◌, ℕ, ℤ, List, FitsSigned, to_z, of_z, w64, ap₂}
use Rattle.std.specs.Prelude.{◌-ℤ◌, unsigned_abs}
use Rattle.std.proofs.lemmas.Int.{ints, to_z-of_z, fits_signed_from_abs}
use Rattle.coefficient_round.specs.Coefficient.{square_length}
use Rattle.point_tables.specs.declared.record.PointRecord.{PointRecord}
use Rattle.candidate_tables.specs.Lines.{length_squared}
use Rattle.candidate_tables.proofs.PlaceFacts.{difference-is as plain_difference, squared-is}
use Rattle.design_rows.specs.Equations.{x_part, y_part}

pub fits : (z : ℤ) → unsigned_abs z < 2 ^ 62 → FitsSigned w64 z
fits z size = let small : unsigned_abs z < 2 ^ 63 = omega arith in fits_signed_from_abs w64 z small

-- a number that the code holds, by what it is
pub plain-part : (z part : ℤ) → unsigned_abs z < 2 ^ 62 → z ≡ part → to_z w64 (of_z w64 z) ≡ part
plain-part z part size is = to_z-of_z w64 z (fits z size) ∙ is

pub squared-parts : (points : List PointRecord) (from to : ℕ) (x y : ℤ) → x ≡ x_part points from to → y ≡ y_part points from to
    → square_length x y ≡ length_squared points from to
squared-parts points from to x y e f = ap₂ square_length e f ∙ squared-is points from to

pub squared-cast : (points : List PointRecord) (from to : ℕ) (x y : ℤ) → unsigned_abs x < 2 ^ 62 → unsigned_abs y < 2 ^ 62 → x ≡ x_part points from to
    → y ≡ y_part points from to → square_length (to_z w64 (of_z w64 x)) (to_z w64 (of_z w64 y)) ≡ length_squared points from to
squared-cast points from to x y x_size y_size e f =
    squared-parts points from to (to_z w64 (of_z w64 x)) (to_z w64 (of_z w64 y)) (plain-part x (x_part points from to) x_size e) (plain-part y (y_part points from to) y_size f)

-- the difference of two coordinates
difference-small : (a b : ℤ) → unsigned_abs a ≤ 10 ^ 11 → unsigned_abs b ≤ 10 ^ 11 → unsigned_abs (a -ℤ b) < 2 ^ 62
difference-small a b first second = omega (arith, ints)

pub record IsDifference (z difference : ℤ) : Type 0 where
  pub is : z ≡ difference
  pub size : unsigned_abs z < 2 ^ 62
  pub fits : FitsSigned w64 difference

pub difference-is : (a b p q : ℤ) → unsigned_abs a ≤ 10 ^ 11 → unsigned_abs b ≤ 10 ^ 11 → a ≡ p → b ≡ q
    → IsDifference (to_z w64 (of_z w64 (to_z w64 (of_z w64 a) -ℤ to_z w64 (of_z w64 b)))) (p -ℤ q)
difference-is a b p q first second e f =
    let small = difference-small a b first second in
    let same : (a -ℤ b) ≡ (p -ℤ q) = ap₂ (λ (x y : ℤ). x -ℤ y) e f in
    rw (plain_difference a b first second) (record { is = same; size = small; fits = rw (← same) (fits (a -ℤ b) small) })
