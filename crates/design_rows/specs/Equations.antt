-- The linearised observation equations of the five kinds, in whole numbers. Source: the usual observation equations of
-- plane networks (distance, direction with the station's orientation, angle), of levelling and of baseline vectors; the
-- units and the rounding of coefficients and weights are this project's own.
use Rattle.std.specs.Prelude.{ℕ, ℤ, pos, neg_ℤ, ◌-ℤ◌, List, [], ◌∷◌, unwrap_or}
use Rattle.coefficient_round.specs.Coefficient.{direction_coefficient, distance_coefficient, coefficient_scale}
use Rattle.geo_model.specs.declared.network.Component.{Component}
use Rattle.geo_model.specs.declared.network.Component.TheVariants as component
use Rattle.point_tables.specs.declared.record.PointRecord.{PointRecord}
use Rattle.candidate_tables.specs.declared.kind.Kind.{Kind}
use Rattle.candidate_tables.specs.declared.kind.Kind.TheVariants as kind
use Rattle.candidate_tables.specs.declared.record.CandidateRecord.{CandidateRecord}
use Rattle.point_tables.specs.Coordinates.{x_at, y_at}
use Rattle.design_rows.specs.declared.term.Term.{Term}
use Rattle.design_rows.specs.Unknowns.{unknown}

-- a term of an equation: a coefficient times a component of the point of this number
abbrev pub term : ℤ → Component → ℕ → Term
term coefficient part place = record { unknown = unknown place part; coefficient = coefficient }

-- an equation: its terms, and the standard deviation of the observation in hundredths of a mm or of a cc
pub record Equation : Type 0 where
  pub terms : List Term
  pub deviation : ℕ

-- the parts of the line between two points, in mm
abbrev pub x_part : List PointRecord → ℕ → ℕ → ℤ
x_part points from to = x_at points to -ℤ x_at points from

abbrev pub y_part : List PointRecord → ℕ → ℕ → ℤ
y_part points from to = y_at points to -ℤ y_at points from

-- the coefficients of a distance: 10000 times the cosine and the sine of the bearing
abbrev pub cosine : List PointRecord → ℕ → ℕ → ℤ
cosine points from to = distance_coefficient (x_part points from to) (x_part points from to) (y_part points from to)

abbrev pub sine : List PointRecord → ℕ → ℕ → ℤ
sine points from to = distance_coefficient (y_part points from to) (x_part points from to) (y_part points from to)

-- the coefficients of a direction: 10000 times the change of the bearing in cc by a mm of x at the station, and, with the
-- other sign, by a mm of y
abbrev pub p_coefficient : List PointRecord → ℕ → ℕ → ℤ
p_coefficient points from to = direction_coefficient (y_part points from to) (x_part points from to) (y_part points from to)

abbrev pub q_coefficient : List PointRecord → ℕ → ℕ → ℤ
q_coefficient points from to = direction_coefficient (x_part points from to) (x_part points from to) (y_part points from to)

-- a distance: - c xA - s yA + c xB + s yB
abbrev pub distance_terms : List PointRecord → ℕ → ℕ → List Term
distance_terms points a b =
    term (neg_ℤ (cosine points a b)) component.X a
    ∷ term (neg_ℤ (sine points a b)) component.Y a
    ∷ term (cosine points a b) component.X b
    ∷ term (sine points a b) component.Y b
    ∷ []

-- a direction: P xA - Q yA - P xB + Q yB - 10000 oA, with the orientation o of the station
abbrev pub direction_terms : List PointRecord → ℕ → ℕ → List Term
direction_terms points a b =
    term (p_coefficient points a b) component.X a
    ∷ term (neg_ℤ (q_coefficient points a b)) component.Y a
    ∷ term (neg_ℤ (p_coefficient points a b)) component.X b
    ∷ term (q_coefficient points a b) component.Y b
    ∷ term (neg_ℤ (pos coefficient_scale)) component.Turn a
    ∷ []

-- an angle at A from B to C: (P_C - P_B) xA + (Q_B - Q_C) yA + P_B xB - Q_B yB - P_C xC + Q_C yC
abbrev pub angle_terms : List PointRecord → ℕ → ℕ → ℕ → List Term
angle_terms points a b c =
    term (p_coefficient points a c -ℤ p_coefficient points a b) component.X a
    ∷ term (q_coefficient points a b -ℤ q_coefficient points a c) component.Y a
    ∷ term (p_coefficient points a b) component.X b
    ∷ term (neg_ℤ (q_coefficient points a b)) component.Y b
    ∷ term (neg_ℤ (p_coefficient points a c)) component.X c
    ∷ term (q_coefficient points a c) component.Y c
    ∷ []

-- the difference of two points in one component: 10000 of B - 10000 of A
abbrev pub difference_terms : Component → ℕ → ℕ → List Term
difference_terms part a b = term (neg_ℤ (pos coefficient_scale)) part a ∷ term (pos coefficient_scale) part b ∷ []

-- an equation of these terms, observed with this standard deviation
abbrev pub observed : List Term → ℕ → Equation
observed terms deviation = record { terms = terms; deviation = deviation }

-- the equations of a kind of observation at these points
abbrev pub equations_by : Kind → List PointRecord → CandidateRecord → List Equation
equations_by kind.Distance points candidate = observed (distance_terms points candidate.from candidate.to) candidate.sd ∷ []
equations_by kind.Direction points candidate = observed (direction_terms points candidate.from candidate.to) candidate.sd ∷ []
equations_by kind.Angle points candidate =
    observed (angle_terms points candidate.from candidate.to (unwrap_or candidate.to2 0)) candidate.sd ∷ []
equations_by kind.Level points candidate = observed (difference_terms component.Z candidate.from candidate.to) candidate.sd ∷ []
equations_by kind.Vector points candidate =
    observed (difference_terms component.X candidate.from candidate.to) candidate.sd
    ∷ observed (difference_terms component.Y candidate.from candidate.to) candidate.sd
    ∷ observed (difference_terms component.Z candidate.from candidate.to) (unwrap_or candidate.sdh 0)
    ∷ []

-- the equations of a candidate
unfoldable pub equations_of : List PointRecord → CandidateRecord → List Equation
equations_of points candidate = equations_by candidate.kind points candidate
