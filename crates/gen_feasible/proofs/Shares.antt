-- How much of a network's energy a row can have beside the vectors, over plain numbers. 10 ^ 8 is the square of the scale.
use Rattle.std.proofs.Common.{◌≡◌, ◌*◌, ◌≤◌, ℕ, [], ◌∷◌, refl, arith, ℤ, pos, ◌+ℤ◌, ◌-ℤ◌, ◌*ℤ◌, ◌≤ℤ◌}
use Rattle.std.specs.Prelude.{unsigned_abs}
use Rattle.std.proofs.Math.Nat.{mul-le-mul}
use Rattle.std.proofs.lemmas.Int.{ints}
use Rattle.whole_algebra.proofs.Order.{le_by, mul_le_mul_right, square_nonneg}
use Rattle.whole_algebra.proofs.Ring.{mul_swap}
use Rattle.whole_algebra.proofs.Normal.{ring, x0, x1, lit, ◌⊕◌, ◌⊖◌, ◌⊗◌}
use Rattle.coefficient_round.specs.Coefficient.{coefficient_scale}
use Rattle.gen_law.proofs.Squares.{square_of_sum, two_terms}

-- the square of a difference
pub square_of_difference : (p q : ℤ) → ((p -ℤ q) *ℤ (p -ℤ q)) ≤ℤ (pos 2 *ℤ (p *ℤ p +ℤ q *ℤ q))
square_of_difference p q =
    le_by ((p -ℤ q) *ℤ (p -ℤ q)) (pos 2 *ℤ (p *ℤ p +ℤ q *ℤ q)) ((p +ℤ q) *ℤ (p +ℤ q)) (square_nonneg (p +ℤ q))
    (ring (lit 2 ⊗ (x0 ⊗ x0 ⊕ x1 ⊗ x1)) ((x0 ⊖ x1) ⊗ (x0 ⊖ x1) ⊕ (x0 ⊕ x1) ⊗ (x0 ⊕ x1)) (p ∷ q ∷ []) refl)

-- the square of a scaled difference
pub scaled_square : (d : ℤ) → (pos coefficient_scale *ℤ d) *ℤ (pos coefficient_scale *ℤ d) ≡ pos 100000000 *ℤ (d *ℤ d)
scaled_square d = mul_swap (pos coefficient_scale) d (pos coefficient_scale) d

-- ---- the energies of rows

-- a distance between points that are moved by (xa, ya) and (xb, yb)
distance_chain : (e f u v xa ya xb yb : ℤ) → e ≤ℤ (pos 157 *ℤ f) → f ≤ℤ (pos 2 *ℤ pos 100000000 *ℤ (u +ℤ v)) → u ≤ℤ (pos 2 *ℤ (xb +ℤ xa)) → v ≤ℤ (pos 2 *ℤ (yb +ℤ ya))
    → e ≤ℤ (pos 62800000000 *ℤ ((xa +ℤ ya) +ℤ (xb +ℤ yb)))
distance_chain e f u v xa ya xb yb h0 h1 h2 h3 = omega (arith, ints)

pub distance_share : (w c s xa ya xb yb : ℤ) → w ≤ℤ pos 157 → unsigned_abs c ≤ 10000 → unsigned_abs s ≤ 10000
    → (w *ℤ ((c *ℤ (xb -ℤ xa) +ℤ s *ℤ (yb -ℤ ya)) *ℤ (c *ℤ (xb -ℤ xa) +ℤ s *ℤ (yb -ℤ ya))))
    ≤ℤ (pos 62800000000 *ℤ ((xa *ℤ xa +ℤ ya *ℤ ya) +ℤ (xb *ℤ xb +ℤ yb *ℤ yb)))
distance_share w c s xa ya xb yb light small_c small_s =
    let form = c *ℤ (xb -ℤ xa) +ℤ s *ℤ (yb -ℤ ya) in
    distance_chain (w *ℤ (form *ℤ form)) (form *ℤ form) ((xb -ℤ xa) *ℤ (xb -ℤ xa)) ((yb -ℤ ya) *ℤ (yb -ℤ ya)) (xa *ℤ xa) (ya *ℤ ya) (xb *ℤ xb) (yb *ℤ yb)
    (mul_le_mul_right (form *ℤ form) w (pos 157) (square_nonneg form) light)
    (two_terms 10000 c s (xb -ℤ xa) (yb -ℤ ya) small_c small_s)
    (square_of_difference xb xa) (square_of_difference yb ya)

-- a turn of a line is small where its coefficients are: two forms of one point's motion, with coefficients of at most 5000
small_difference : (p q : ℤ) → unsigned_abs p ≤ 5000 → unsigned_abs q ≤ 5000 → unsigned_abs (p -ℤ q) ≤ 10000
small_difference p q small_p small_q = omega (arith, ints)

pub turn_share : (p q p' q' x y : ℤ) → unsigned_abs p ≤ 5000 → unsigned_abs q ≤ 5000 → unsigned_abs p' ≤ 5000 → unsigned_abs q' ≤ 5000
    → (((p -ℤ p') *ℤ x +ℤ (q -ℤ q') *ℤ y) *ℤ ((p -ℤ p') *ℤ x +ℤ (q -ℤ q') *ℤ y)) ≤ℤ (pos 200000000 *ℤ (x *ℤ x +ℤ y *ℤ y))
turn_share p q p' q' x y hp hq hp' hq' =
    two_terms 10000 (p -ℤ p') (q -ℤ q') x y (small_difference p p' hp hp') (small_difference q q' hq hq')

-- an angle
angle_chain : (e f s : ℤ) → e ≤ℤ (pos 45 *ℤ f) → f ≤ℤ (pos 200000000 *ℤ s) → e ≤ℤ (pos 9000000000 *ℤ s)
angle_chain e f s h0 h1 = omega (arith, ints)

pub angle_share : (w form s : ℤ) → w ≤ℤ pos 45 → (form *ℤ form) ≤ℤ (pos 200000000 *ℤ s) → (w *ℤ (form *ℤ form)) ≤ℤ (pos 9000000000 *ℤ s)
angle_share w form s light small = angle_chain (w *ℤ (form *ℤ form)) (form *ℤ form) s (mul_le_mul_right (form *ℤ form) w (pos 45) (square_nonneg form) light) small

-- a direction beside another one of its station, from which its form differs by a small turn
direction_chain : (f g u s : ℤ) → f ≤ℤ (pos 2 *ℤ (g +ℤ u)) → u ≤ℤ (pos 200000000 *ℤ s) → (pos 100 *ℤ f) ≤ℤ (pos 2 *ℤ (pos 100 *ℤ g) +ℤ pos 40000000000 *ℤ s)
direction_chain f g u s h0 h1 = omega (arith, ints)

pub direction_share : (form other turn s : ℤ) → form ≡ other +ℤ turn → (turn *ℤ turn) ≤ℤ (pos 200000000 *ℤ s)
    → (pos 100 *ℤ (form *ℤ form)) ≤ℤ (pos 2 *ℤ (pos 100 *ℤ (other *ℤ other)) +ℤ pos 40000000000 *ℤ s)
direction_share form other turn s is small =
    rw is (direction_chain ((other +ℤ turn) *ℤ (other +ℤ turn)) (other *ℤ other) (turn *ℤ turn) s (square_of_sum other turn) small)

-- a scaled difference with a weight of at most, or at least, m
pub difference_most : (w m d : ℤ) → w ≤ℤ m → (w *ℤ ((pos coefficient_scale *ℤ d) *ℤ (pos coefficient_scale *ℤ d))) ≤ℤ (m *ℤ (pos 100000000 *ℤ (d *ℤ d)))
difference_most w m d light = rw (← scaled_square d) (mul_le_mul_right ((pos coefficient_scale *ℤ d) *ℤ (pos coefficient_scale *ℤ d)) w m (square_nonneg (pos coefficient_scale *ℤ d)) light)

pub difference_least : (w m d : ℤ) → m ≤ℤ w → (m *ℤ (pos 100000000 *ℤ (d *ℤ d))) ≤ℤ (w *ℤ ((pos coefficient_scale *ℤ d) *ℤ (pos coefficient_scale *ℤ d)))
difference_least w m d heavy = rw (← scaled_square d) (mul_le_mul_right ((pos coefficient_scale *ℤ d) *ℤ (pos coefficient_scale *ℤ d)) m w (square_nonneg (pos coefficient_scale *ℤ d)) heavy)

level_chain : (e d a b : ℤ) → e ≤ℤ (pos 100 *ℤ (pos 100000000 *ℤ d)) → d ≤ℤ (pos 2 *ℤ (b +ℤ a)) → e ≤ℤ (pos 20000000000 *ℤ (a +ℤ b))
level_chain e d a b h0 h1 = omega (arith, ints)

pub level_share : (w za zb : ℤ) → w ≤ℤ pos 100
    → (w *ℤ ((pos coefficient_scale *ℤ (zb -ℤ za)) *ℤ (pos coefficient_scale *ℤ (zb -ℤ za)))) ≤ℤ (pos 20000000000 *ℤ (za *ℤ za +ℤ zb *ℤ zb))
level_share w za zb light =
    level_chain (w *ℤ ((pos coefficient_scale *ℤ (zb -ℤ za)) *ℤ (pos coefficient_scale *ℤ (zb -ℤ za)))) ((zb -ℤ za) *ℤ (zb -ℤ za)) (za *ℤ za) (zb *ℤ zb)
    (difference_most w (pos 100) (zb -ℤ za) light) (square_of_difference zb za)

-- ---- what the whole energy bears

-- The whole energy is at least that of two vectors at each new point, by the squares of the points' motions in the plane
-- and in height, and that of all others.
pub record IsWhole (planes heights others whole : ℤ) : Type 0 where
  pub planes_some : pos 0 ≤ℤ planes
  pub heights_some : pos 0 ≤ℤ heights
  pub others_some : pos 0 ≤ℤ others
  pub within : ((pos 20000000000 *ℤ planes +ℤ pos 8800000000 *ℤ heights) +ℤ others) ≤ℤ whole

-- a fifth of the whole energy is left to the others where a row has at most four fifths of it
abbrev pub IsBorne : ℤ → ℤ → Type 0
IsBorne energy whole = (pos 5 *ℤ energy) ≤ℤ (pos 4 *ℤ whole)

-- a row of the others, beside the vectors' planes
pub borne_by_planes : (energy part planes heights others whole : ℤ) → IsWhole planes heights others whole → energy ≤ℤ others → part ≤ℤ planes
    → energy ≤ℤ (pos 80000000000 *ℤ part) → IsBorne energy whole
borne_by_planes energy part planes heights others whole is among within small = omega (arith, ints)

-- a row of the others, beside the vectors' heights
pub borne_by_heights : (energy part planes heights others whole : ℤ) → IsWhole planes heights others whole → energy ≤ℤ others → part ≤ℤ heights
    → energy ≤ℤ (pos 35200000000 *ℤ part) → IsBorne energy whole
borne_by_heights energy part planes heights others whole is among within small = omega (arith, ints)

-- a direction, beside the vectors' planes and another direction
pub borne_by_partner : (energy partner part planes heights others whole : ℤ) → IsWhole planes heights others whole → pos 0 ≤ℤ partner
    → (energy +ℤ partner) ≤ℤ others → part ≤ℤ planes → energy ≤ℤ (pos 2 *ℤ partner +ℤ pos 40000000000 *ℤ part) → IsBorne energy whole
borne_by_partner energy partner part planes heights others whole is some among within small = omega (arith, ints)

-- a row of a vector, which has half of the vectors' energy in its component
pub borne_in_planes : (energy part planes heights others whole : ℤ) → IsWhole planes heights others whole → part ≤ℤ planes
    → energy ≤ℤ (pos 100 *ℤ (pos 100000000 *ℤ part)) → IsBorne energy whole
borne_in_planes energy part planes heights others whole is within small = omega (arith, ints)

pub borne_in_heights : (energy part planes heights others whole : ℤ) → IsWhole planes heights others whole → part ≤ℤ heights
    → energy ≤ℤ (pos 45 *ℤ (pos 100000000 *ℤ part)) → IsBorne energy whole
borne_in_heights energy part planes heights others whole is within small = omega (arith, ints)

-- ---- the limits of a point

-- a factor of at least m
factor_least : (m s : ℕ) (whole : ℤ) → m ≤ s → pos 0 ≤ℤ whole → (pos (m * m) *ℤ whole) ≤ℤ (pos (s * s) *ℤ whole)
factor_least m s whole least some =
    let more : m * m ≤ s * s = mul-le-mul least least in
    mul_le_mul_right whole (pos (m * m)) (pos (s * s)) some (omega (arith, ints))

axis_chain : (part planes heights others whole scaled : ℤ) → IsWhole planes heights others whole → part ≤ℤ planes → (pos 5625 *ℤ whole) ≤ℤ scaled
    → (pos 100000000000000 *ℤ part) ≤ℤ scaled
axis_chain part planes heights others whole scaled is within least = omega (arith, ints)

whole_some : (planes heights others whole : ℤ) → IsWhole planes heights others whole → pos 0 ≤ℤ whole
whole_some planes heights others whole is = omega (arith, ints)

-- an axis of 7.5 mm and more
pub axis_met : (s : ℕ) (part planes heights others whole : ℤ) → IsWhole planes heights others whole → 75 ≤ s → part ≤ℤ planes
    → (pos 100000000000000 *ℤ part) ≤ℤ (pos (s * s) *ℤ whole)
axis_met s part planes heights others whole is least within =
    axis_chain part planes heights others whole (pos (s * s) *ℤ whole) is within (factor_least 75 s whole least (whole_some planes heights others whole is))

height_chain : (part planes heights others whole scaled : ℤ) → IsWhole planes heights others whole → part ≤ℤ heights → pos 0 ≤ℤ part → (pos 12100 *ℤ whole) ≤ℤ scaled
    → (pos 100000000000000 *ℤ part) ≤ℤ scaled
height_chain part planes heights others whole scaled is within some least = omega (arith, ints)

-- a height of 11 mm and more
pub height_met : (s : ℕ) (part planes heights others whole : ℤ) → IsWhole planes heights others whole → 110 ≤ s → part ≤ℤ heights → pos 0 ≤ℤ part
    → (pos 100000000000000 *ℤ part) ≤ℤ (pos (s * s) *ℤ whole)
height_met s part planes heights others whole is least within some =
    height_chain part planes heights others whole (pos (s * s) *ℤ whole) is within some (factor_least 110 s whole least (whole_some planes heights others whole is))
