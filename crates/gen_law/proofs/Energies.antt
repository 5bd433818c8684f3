-- The energies of rows by the kind of the observation.
use Rattle.std.proofs.Common.{◌≡◌, ◌∙◌, ℤ, pos, ◌+ℤ◌, ◌-ℤ◌, ◌*ℤ◌, neg_ℤ, List, [], ◌∷◌, refl, ap}
use Rattle.whole_algebra.proofs.Normal.{ring, atom, lit, opposite_of, x0, x1, x2, x3, x4, x5, x6, x7, ◌⊕◌, ◌⊖◌, ◌⊗◌}
use Rattle.coefficient_round.specs.Coefficient.{coefficient_scale}
use Rattle.geo_model.specs.declared.network.Component.TheVariants as component
use Rattle.geo_model.specs.declared.network.Unknown.{Unknown}
use Rattle.geo_model.specs.Row.{Displaced, row_energy}
use Rattle.design_rows.specs.Equations.{Equation, observed, cosine, sine, p_coefficient, q_coefficient, distance_terms, direction_terms, angle_terms, difference_terms}
use Rattle.design_rows.specs.Rows.{row_of}
use Rattle.design_rows.specs.Unknowns.{unknown}
use Rattle.gen_law.specs.RowSums.{moved, terms_at, weighted_square, DistanceEnergy, DirectionEnergy, AngleEnergy, DifferenceEnergy}
use Rattle.gen_law.proofs.RowSums.{rows_are_sums}

-- the energy of a row whose terms have this sum
energy_of : (unknowns : List Unknown) (equation : Equation) (x : Displaced) (form : ℤ) → terms_at unknowns equation x ≡ form
    → row_energy (row_of unknowns equation) x ≡ weighted_square equation.deviation form
energy_of unknowns equation x form is = ap (λ (z : ℤ). weighted_square equation.deviation z) (rows_are_sums unknowns equation x ∙ is)

distance_form : (c s xa ya xb yb : ℤ)
    → neg_ℤ c *ℤ xa +ℤ (neg_ℤ s *ℤ ya +ℤ (c *ℤ xb +ℤ (s *ℤ yb +ℤ pos 0))) ≡ c *ℤ (xb -ℤ xa) +ℤ s *ℤ (yb -ℤ ya)
distance_form c s xa ya xb yb =
    ring (opposite_of x0 ⊗ x2 ⊕ (opposite_of x1 ⊗ x3 ⊕ (x0 ⊗ x4 ⊕ (x1 ⊗ x5 ⊕ lit 0))))
    (x0 ⊗ (x4 ⊖ x2) ⊕ x1 ⊗ (x5 ⊖ x3)) (c ∷ s ∷ xa ∷ ya ∷ xb ∷ yb ∷ []) refl

pub distance_energy : DistanceEnergy
distance_energy unknowns points a b deviation x =
    energy_of unknowns (observed (distance_terms points a b) deviation) x _
    (distance_form (cosine points a b) (sine points a b) (moved unknowns x (unknown a component.X)) (moved unknowns x (unknown a component.Y))
    (moved unknowns x (unknown b component.X)) (moved unknowns x (unknown b component.Y)))

direction_form : (p q k xa ya xb yb o : ℤ)
    → p *ℤ xa +ℤ (neg_ℤ q *ℤ ya +ℤ (neg_ℤ p *ℤ xb +ℤ (q *ℤ yb +ℤ (neg_ℤ k *ℤ o +ℤ pos 0))))
    ≡ (q *ℤ (yb -ℤ ya) -ℤ p *ℤ (xb -ℤ xa)) -ℤ k *ℤ o
direction_form p q k xa ya xb yb o =
    ring (x0 ⊗ x3 ⊕ (opposite_of x1 ⊗ x4 ⊕ (opposite_of x0 ⊗ x5 ⊕ (x1 ⊗ x6 ⊕ (opposite_of x2 ⊗ x7 ⊕ lit 0)))))
    ((x1 ⊗ (x6 ⊖ x4) ⊖ x0 ⊗ (x5 ⊖ x3)) ⊖ x2 ⊗ x7) (p ∷ q ∷ k ∷ xa ∷ ya ∷ xb ∷ yb ∷ o ∷ []) refl

pub direction_energy : DirectionEnergy
direction_energy unknowns points a b deviation x =
    energy_of unknowns (observed (direction_terms points a b) deviation) x _
    (direction_form (p_coefficient points a b) (q_coefficient points a b) (pos coefficient_scale) (moved unknowns x (unknown a component.X)) (moved unknowns x (unknown a component.Y))
    (moved unknowns x (unknown b component.X)) (moved unknowns x (unknown b component.Y)) (moved unknowns x (unknown a component.Turn)))

angle_form : (pb qb pc qc xa ya xb yb xc yc : ℤ)
    → (pc -ℤ pb) *ℤ xa +ℤ ((qb -ℤ qc) *ℤ ya +ℤ (pb *ℤ xb +ℤ (neg_ℤ qb *ℤ yb +ℤ (neg_ℤ pc *ℤ xc +ℤ (qc *ℤ yc +ℤ pos 0)))))
    ≡ (qc *ℤ (yc -ℤ ya) -ℤ pc *ℤ (xc -ℤ xa)) -ℤ (qb *ℤ (yb -ℤ ya) -ℤ pb *ℤ (xb -ℤ xa))
angle_form pb qb pc qc xa ya xb yb xc yc =
    ring ((x2 ⊖ x0) ⊗ x4 ⊕ ((x1 ⊖ x3) ⊗ x5 ⊕ (x0 ⊗ x6 ⊕ (opposite_of x1 ⊗ x7 ⊕ (opposite_of x2 ⊗ atom 8 ⊕ (x3 ⊗ atom 9 ⊕ lit 0))))))
    ((x3 ⊗ (atom 9 ⊖ x5) ⊖ x2 ⊗ (atom 8 ⊖ x4)) ⊖ (x1 ⊗ (x7 ⊖ x5) ⊖ x0 ⊗ (x6 ⊖ x4)))
    (pb ∷ qb ∷ pc ∷ qc ∷ xa ∷ ya ∷ xb ∷ yb ∷ xc ∷ yc ∷ []) refl

pub angle_energy : AngleEnergy
angle_energy unknowns points a b c deviation x =
    energy_of unknowns (observed (angle_terms points a b c) deviation) x _
    (angle_form (p_coefficient points a b) (q_coefficient points a b) (p_coefficient points a c) (q_coefficient points a c)
    (moved unknowns x (unknown a component.X)) (moved unknowns x (unknown a component.Y)) (moved unknowns x (unknown b component.X)) (moved unknowns x (unknown b component.Y))
    (moved unknowns x (unknown c component.X)) (moved unknowns x (unknown c component.Y)))

difference_form : (k a b : ℤ) → neg_ℤ k *ℤ a +ℤ (k *ℤ b +ℤ pos 0) ≡ k *ℤ (b -ℤ a)
difference_form k a b = ring (opposite_of x0 ⊗ x1 ⊕ (x0 ⊗ x2 ⊕ lit 0)) (x0 ⊗ (x2 ⊖ x1)) (k ∷ a ∷ b ∷ []) refl

pub difference_energy : DifferenceEnergy
difference_energy unknowns part a b deviation x =
    energy_of unknowns (observed (difference_terms part a b) deviation) x _
    (difference_form (pos coefficient_scale) (moved unknowns x (unknown a part)) (moved unknowns x (unknown b part)))
