-- The rows of each kind of candidate of a generated network, whatever its points and unknowns: how much energy they have.
use Rattle.std.proofs.Common.{◌≡◌, ◌∙◌, ◌≤◌, ℕ, List, [], ◌∷◌, inl, inr, refl, sym, ap, arith, ℤ, pos, ◌+ℤ◌, ◌-ℤ◌, ◌*ℤ◌, ◌≤ℤ◌}
use Rattle.std.specs.Prelude.{unsigned_abs}
use Rattle.std.proofs.lemmas.Int.{ints}
use Rattle.whole_algebra.proofs.Normal.{ring, x0, x1, x2, x3, x4, x5, lit, ◌⊕◌, ◌⊖◌, ◌⊗◌}
use Rattle.whole_algebra.proofs.Order.{le_of_eq}
use Rattle.coefficient_round.specs.Coefficient.{coefficient_scale, weight_for}
use Rattle.geo_model.specs.declared.network.Component.{Component}
use Rattle.geo_model.specs.declared.network.Component.TheVariants as component
use Rattle.geo_model.specs.declared.network.Unknown.{Unknown}
use Rattle.geo_model.specs.Row.{Displaced, row_energy}
use Rattle.point_tables.specs.declared.record.PointRecord.{PointRecord}
use Rattle.design_rows.specs.Equations.{observed, cosine, sine, p_coefficient, q_coefficient, distance_terms, direction_terms, angle_terms, difference_terms, x_part, y_part}
use Rattle.design_rows.specs.Rows.{row_of}
use Rattle.design_rows.proofs.EquationFacts.{cosine-size, sine-size}
use Rattle.gen_law.specs.RowSums.{turned, weighted_square}
use Rattle.gen_law.proofs.Coefficients.{far_direction-small, weight_of_8, weight_of_10, weight_of_15}
use Rattle.gen_law.proofs.Energies.{angle_energy, difference_energy, direction_energy, distance_energy}
use Rattle.gen_feasible.proofs.Motions.{IsStill, height_square, motion, plane_square}
use Rattle.gen_feasible.proofs.Shares.{angle_share, difference_least, difference_most, direction_share, distance_share, level_share, turn_share}

-- a row's energy is at most a bound that its square has
at_most : (energy square bound : ℤ) → energy ≡ square → square ≤ℤ bound → energy ≤ℤ bound
at_most energy square bound is small = rw is small

at_least : (energy square bound : ℤ) → energy ≡ square → bound ≤ℤ square → bound ≤ℤ energy
at_least energy square bound is large = rw is large

-- ---- distances

pub distance-energy : (unknowns : List Unknown) (points : List PointRecord) (a b : ℕ) (x : Displaced)
    → row_energy (row_of unknowns (observed (distance_terms points a b) 800)) x ≤ℤ (pos 62800000000 *ℤ (plane_square unknowns x a +ℤ plane_square unknowns x b))
distance-energy unknowns points a b x =
    at_most _ _ (pos 62800000000 *ℤ (plane_square unknowns x a +ℤ plane_square unknowns x b)) (distance_energy unknowns points a b 800 x)
    (distance_share (weight_for 800) (cosine points a b) (sine points a b) (motion unknowns x a component.X) (motion unknowns x a component.Y) (motion unknowns x b component.X) (motion unknowns x b component.Y)
    weight_of_8.1 (cosine-size points a b) (sine-size points a b))

-- ---- levels and vectors

heavy_ten : pos 100 ≤ℤ weight_for 1000
heavy_ten = le_of_eq (pos 100) (weight_for 1000) (sym weight_of_10)

light_ten : weight_for 1000 ≤ℤ pos 100
light_ten = le_of_eq (weight_for 1000) (pos 100) weight_of_10

pub level-energy : (unknowns : List Unknown) (a b : ℕ) (x : Displaced)
    → row_energy (row_of unknowns (observed (difference_terms component.Z a b) 1000)) x ≤ℤ (pos 20000000000 *ℤ (height_square unknowns x a +ℤ height_square unknowns x b))
level-energy unknowns a b x =
    at_most _ _ (pos 20000000000 *ℤ (height_square unknowns x a +ℤ height_square unknowns x b)) (difference_energy unknowns component.Z a b 1000 x)
    (level_share (weight_for 1000) (motion unknowns x a component.Z) (motion unknowns x b component.Z) light_ten)

from_still : (p q : ℤ) → q ≡ pos 0 → p -ℤ q ≡ p
from_still p q h = rw h (omega (arith, ints))

-- a row of a vector from a still point: its energy is its weight times 10 ^ 8 times the square of the other point's motion
pub vector-row-most : (unknowns : List Unknown) (part : Component) (a b deviation : ℕ) (x : Displaced) (m : ℤ) → motion unknowns x a part ≡ pos 0 → weight_for deviation ≤ℤ m
    → row_energy (row_of unknowns (observed (difference_terms part a b) deviation)) x ≤ℤ (m *ℤ (pos 100000000 *ℤ (motion unknowns x b part *ℤ motion unknowns x b part)))
vector-row-most unknowns part a b deviation x m still light =
    at_most _ _ (m *ℤ (pos 100000000 *ℤ (motion unknowns x b part *ℤ motion unknowns x b part)))
    (difference_energy unknowns part a b deviation x ∙ ap (λ (d : ℤ). weighted_square deviation (pos coefficient_scale *ℤ d)) (from_still (motion unknowns x b part) (motion unknowns x a part) still))
    (difference_most (weight_for deviation) m (motion unknowns x b part) light)

pub vector-row-least : (unknowns : List Unknown) (part : Component) (a b deviation : ℕ) (x : Displaced) (m : ℤ) → motion unknowns x a part ≡ pos 0 → m ≤ℤ weight_for deviation
    → (m *ℤ (pos 100000000 *ℤ (motion unknowns x b part *ℤ motion unknowns x b part))) ≤ℤ row_energy (row_of unknowns (observed (difference_terms part a b) deviation)) x
vector-row-least unknowns part a b deviation x m still heavy =
    at_least _ _ (m *ℤ (pos 100000000 *ℤ (motion unknowns x b part *ℤ motion unknowns x b part)))
    (difference_energy unknowns part a b deviation x ∙ ap (λ (d : ℤ). weighted_square deviation (pos coefficient_scale *ℤ d)) (from_still (motion unknowns x b part) (motion unknowns x a part) still))
    (difference_least (weight_for deviation) m (motion unknowns x b part) heavy)

-- the rows of a vector with the standard deviations 10.00 and 15.00
pub vector-x : (unknowns : List Unknown) (a b : ℕ) (x : Displaced) → IsStill unknowns x a
    → row_energy (row_of unknowns (observed (difference_terms component.X a b) 1000)) x ≤ℤ (pos 100 *ℤ (pos 100000000 *ℤ (motion unknowns x b component.X *ℤ motion unknowns x b component.X)))
vector-x unknowns a b x still = vector-row-most unknowns component.X a b 1000 x (pos 100) still.in_x light_ten

pub vector-y : (unknowns : List Unknown) (a b : ℕ) (x : Displaced) → IsStill unknowns x a
    → row_energy (row_of unknowns (observed (difference_terms component.Y a b) 1000)) x ≤ℤ (pos 100 *ℤ (pos 100000000 *ℤ (motion unknowns x b component.Y *ℤ motion unknowns x b component.Y)))
vector-y unknowns a b x still = vector-row-most unknowns component.Y a b 1000 x (pos 100) still.in_y light_ten

pub vector-z : (unknowns : List Unknown) (a b : ℕ) (x : Displaced) → IsStill unknowns x a
    → row_energy (row_of unknowns (observed (difference_terms component.Z a b) 1500)) x ≤ℤ (pos 45 *ℤ (pos 100000000 *ℤ (motion unknowns x b component.Z *ℤ motion unknowns x b component.Z)))
vector-z unknowns a b x still = vector-row-most unknowns component.Z a b 1500 x (pos 45) still.in_z weight_of_15.1

three_rows : (r s t p q z : ℤ) → (pos 100 *ℤ (pos 100000000 *ℤ p)) ≤ℤ r → (pos 100 *ℤ (pos 100000000 *ℤ q)) ≤ℤ s → (pos 44 *ℤ (pos 100000000 *ℤ z)) ≤ℤ t
    → (pos 10000000000 *ℤ (p +ℤ q) +ℤ pos 4400000000 *ℤ z) ≤ℤ (r +ℤ (s +ℤ (t +ℤ pos 0)))
three_rows r s t p q z h k l = omega (arith, ints)

-- what a vector from a still point adds to the energy
pub vector-energy : (unknowns : List Unknown) (a b : ℕ) (x : Displaced) → IsStill unknowns x a
    → (pos 10000000000 *ℤ plane_square unknowns x b +ℤ pos 4400000000 *ℤ height_square unknowns x b)
    ≤ℤ (row_energy (row_of unknowns (observed (difference_terms component.X a b) 1000)) x
    +ℤ (row_energy (row_of unknowns (observed (difference_terms component.Y a b) 1000)) x
    +ℤ (row_energy (row_of unknowns (observed (difference_terms component.Z a b) 1500)) x +ℤ pos 0)))
vector-energy unknowns a b x still =
    three_rows (row_energy (row_of unknowns (observed (difference_terms component.X a b) 1000)) x)
    (row_energy (row_of unknowns (observed (difference_terms component.Y a b) 1000)) x)
    (row_energy (row_of unknowns (observed (difference_terms component.Z a b) 1500)) x)
    (motion unknowns x b component.X *ℤ motion unknowns x b component.X) (motion unknowns x b component.Y *ℤ motion unknowns x b component.Y) (height_square unknowns x b)
    (vector-row-least unknowns component.X a b 1000 x (pos 100) still.in_x heavy_ten)
    (vector-row-least unknowns component.Y a b 1000 x (pos 100) still.in_y heavy_ten)
    (vector-row-least unknowns component.Z a b 1500 x (pos 44) still.in_z weight_of_15.0)

-- ---- directions and angles

-- both parts of a line are 800 m and more
pub record IsFar (points : List PointRecord) (a b : ℕ) : Type 0 where
  pub x : 800000 ≤ unsigned_abs (x_part points a b)
  pub y : 800000 ≤ unsigned_abs (y_part points a b)

p-small : (points : List PointRecord) (a b : ℕ) → IsFar points a b → unsigned_abs (p_coefficient points a b) ≤ 5000
p-small points a b far = far_direction-small (y_part points a b) (x_part points a b) (y_part points a b) (inr refl) far.x far.y

q-small : (points : List PointRecord) (a b : ℕ) → IsFar points a b → unsigned_abs (q_coefficient points a b) ≤ 5000
q-small points a b far = far_direction-small (x_part points a b) (x_part points a b) (y_part points a b) (inl refl) far.x far.y

-- the turns of two lines from a station to still points differ by a form of the station's motion
two_turns : (p q p' q' xa ya xb yb xc yc : ℤ) → xb ≡ pos 0 → yb ≡ pos 0 → xc ≡ pos 0 → yc ≡ pos 0
    → (q *ℤ (yb -ℤ ya) -ℤ p *ℤ (xb -ℤ xa)) -ℤ (q' *ℤ (yc -ℤ ya) -ℤ p' *ℤ (xc -ℤ xa)) ≡ (p -ℤ p') *ℤ xa +ℤ (q' -ℤ q) *ℤ ya
two_turns p q p' q' xa ya xb yb xc yc hx hy kx ky =
    rw (hx, hy, kx, ky)
    (ring ((x1 ⊗ (lit 0 ⊖ x5) ⊖ x0 ⊗ (lit 0 ⊖ x4)) ⊖ (x3 ⊗ (lit 0 ⊖ x5) ⊖ x2 ⊗ (lit 0 ⊖ x4))) ((x0 ⊖ x2) ⊗ x4 ⊕ (x3 ⊖ x1) ⊗ x5)
    (p ∷ q ∷ p' ∷ q' ∷ xa ∷ ya ∷ []) refl)

pub turns-differ : (unknowns : List Unknown) (points : List PointRecord) (a b c : ℕ) (x : Displaced) → IsFar points a b → IsFar points a c → IsStill unknowns x b → IsStill unknowns x c
    → ((turned unknowns points x a b -ℤ turned unknowns points x a c) *ℤ (turned unknowns points x a b -ℤ turned unknowns points x a c)) ≤ℤ (pos 200000000 *ℤ plane_square unknowns x a)
turns-differ unknowns points a b c x far_b far_c still_b still_c =
    rw (two_turns (p_coefficient points a b) (q_coefficient points a b) (p_coefficient points a c) (q_coefficient points a c) (motion unknowns x a component.X) (motion unknowns x a component.Y)
    (motion unknowns x b component.X) (motion unknowns x b component.Y) (motion unknowns x c component.X) (motion unknowns x c component.Y) still_b.in_x still_b.in_y still_c.in_x still_c.in_y)
    (turn_share (p_coefficient points a b) (q_coefficient points a c) (p_coefficient points a c) (q_coefficient points a b) (motion unknowns x a component.X) (motion unknowns x a component.Y)
    (p-small points a b far_b) (q-small points a c far_c) (p-small points a c far_c) (q-small points a b far_b))

pub angle-energy : (unknowns : List Unknown) (points : List PointRecord) (a b c : ℕ) (x : Displaced) → IsFar points a b → IsFar points a c → IsStill unknowns x b → IsStill unknowns x c
    → row_energy (row_of unknowns (observed (angle_terms points a b c) 1500)) x ≤ℤ (pos 9000000000 *ℤ plane_square unknowns x a)
angle-energy unknowns points a b c x far_b far_c still_b still_c =
    at_most _ _ (pos 9000000000 *ℤ plane_square unknowns x a) (angle_energy unknowns points a b c 1500 x)
    (angle_share (weight_for 1500) (turned unknowns points x a c -ℤ turned unknowns points x a b) (plane_square unknowns x a) weight_of_15.1
    (turns-differ unknowns points a c b x far_c far_b still_c still_b))

-- the form of a direction is that of another one of its station and the difference of their turns
beside : (t u o : ℤ) → t -ℤ o ≡ (u -ℤ o) +ℤ (t -ℤ u)
beside t u o = omega (arith, ints)

weighed : (w f g bound : ℤ) → w ≡ pos 100 → (pos 100 *ℤ f) ≤ℤ (pos 2 *ℤ (pos 100 *ℤ g) +ℤ bound) → (w *ℤ f) ≤ℤ (pos 2 *ℤ (w *ℤ g) +ℤ bound)
weighed w f g bound is small = rw is small

two_directions : (energy other square other_square bound : ℤ) → energy ≡ square → other ≡ other_square → square ≤ℤ (pos 2 *ℤ other_square +ℤ bound) → energy ≤ℤ (pos 2 *ℤ other +ℤ bound)
two_directions energy other square other_square bound h k small = rw (h, k) small

pub direction-energy : (unknowns : List Unknown) (points : List PointRecord) (a b c : ℕ) (x : Displaced) → IsFar points a b → IsFar points a c → IsStill unknowns x b → IsStill unknowns x c
    → row_energy (row_of unknowns (observed (direction_terms points a b) 1000)) x
    ≤ℤ (pos 2 *ℤ row_energy (row_of unknowns (observed (direction_terms points a c) 1000)) x +ℤ pos 40000000000 *ℤ plane_square unknowns x a)
direction-energy unknowns points a b c x far_b far_c still_b still_c =
    let turn = pos coefficient_scale *ℤ motion unknowns x a component.Turn in
    let form = turned unknowns points x a b -ℤ turn in
    let other = turned unknowns points x a c -ℤ turn in
    two_directions _ _ _ _ (pos 40000000000 *ℤ plane_square unknowns x a) (direction_energy unknowns points a b 1000 x) (direction_energy unknowns points a c 1000 x)
    (weighed (weight_for 1000) (form *ℤ form) (other *ℤ other) (pos 40000000000 *ℤ plane_square unknowns x a) weight_of_10
    (direction_share form other (turned unknowns points x a b -ℤ turned unknowns points x a c) (plane_square unknowns x a)
    (beside (turned unknowns points x a b) (turned unknowns points x a c) turn)
    (turns-differ unknowns points a b c x far_b far_c still_b still_c)))
