-- Rows as sums over the terms of their equations, and their energies by the kind of the observation. This project's
-- own.
use Rattle.std.specs.Prelude.{◌≡◌, ◌≢◌, ℕ, ℤ, pos, ◌+ℤ◌, ◌-ℤ◌, ◌*ℤ◌, if◌then◌else◌, List, slice_get, Some}
use Rattle.std.specs.List.{IsDistinct, enumerate_from}
use Rattle.whole_algebra.specs.Sums.{int_sum_by}
use Rattle.coefficient_round.specs.Coefficient.{coefficient_scale, weight_for}
use Rattle.geo_model.specs.declared.network.Component.{Component}
use Rattle.geo_model.specs.declared.network.Component.TheVariants as component
use Rattle.geo_model.specs.declared.network.Unknown.{Unknown}
use Rattle.geo_model.specs.Row.{Displaced, form_at, row_energy}
use Rattle.point_tables.specs.declared.record.PointRecord.{PointRecord}
use Rattle.design_rows.specs.Equations.{Equation, observed, cosine, sine, p_coefficient, q_coefficient, distance_terms, direction_terms, angle_terms, difference_terms}
use Rattle.design_rows.specs.Rows.{row_of}
use Rattle.design_rows.specs.Unknowns.{is_same, unknown}

-- by how much a displacement moves an unknown of the list: not at all where it isn't there, as a fixed coordinate
unfoldable pub moved : List Unknown → Displaced → Unknown → ℤ
moved unknowns x wanted =
    int_sum_by (λ column. if is_same column.1 wanted then x column.0 else pos 0) (enumerate_from 0 unknowns)

-- the sum of the terms of an equation: each coefficient times the displacement of its unknown
abbrev pub terms_at : List Unknown → Equation → Displaced → ℤ
terms_at unknowns equation x = int_sum_by (λ term. term.coefficient *ℤ moved unknowns x term.unknown) equation.terms

-- the form of a row is the sum of the terms of its equation
abbrev pub RowsAreSums : Type 0
RowsAreSums =
    (unknowns : List Unknown) (equation : Equation) (x : Displaced) →
    form_at (row_of unknowns equation).entries x ≡ terms_at unknowns equation x

-- an unknown is moved by the entry at its number
abbrev pub UnknownsMove : Type 0
UnknownsMove =
    (unknowns : List Unknown) (x : Displaced) (k : ℕ) (u : Unknown) →
    IsDistinct is_same unknowns → slice_get unknowns k ≡ Some u → moved unknowns x u ≡ x k

-- what is no unknown isn't moved
abbrev pub OthersAreUnmoved : Type 0
OthersAreUnmoved =
    (unknowns : List Unknown) (x : Displaced) (u : Unknown) →
    ((k : ℕ) → slice_get unknowns k ≢ Some u) → moved unknowns x u ≡ pos 0

-- ---- energies by kind

-- by how much more the second point is moved than the first one
abbrev pub apart_by : List Unknown → Displaced → Component → ℕ → ℕ → ℤ
apart_by unknowns x part a b = moved unknowns x (unknown b part) -ℤ moved unknowns x (unknown a part)

-- the weight of a standard deviation times a square
abbrev pub weighted_square : ℕ → ℤ → ℤ
weighted_square deviation form = weight_for deviation *ℤ (form *ℤ form)

-- the energy of a distance
abbrev pub DistanceEnergy : Type 0
DistanceEnergy =
    (unknowns : List Unknown) (points : List PointRecord) (a b deviation : ℕ) (x : Displaced) →
    row_energy (row_of unknowns (observed (distance_terms points a b) deviation)) x
    ≡ weighted_square deviation (cosine points a b *ℤ apart_by unknowns x component.X a b
    +ℤ sine points a b *ℤ apart_by unknowns x component.Y a b)

-- what a line adds to the form of a direction: the change of its bearing
abbrev pub turned : List Unknown → List PointRecord → Displaced → ℕ → ℕ → ℤ
turned unknowns points x a b =
    q_coefficient points a b *ℤ apart_by unknowns x component.Y a b
    -ℤ p_coefficient points a b *ℤ apart_by unknowns x component.X a b

-- the energy of a direction: the change of its bearing less the turn of its station
abbrev pub DirectionEnergy : Type 0
DirectionEnergy =
    (unknowns : List Unknown) (points : List PointRecord) (a b deviation : ℕ) (x : Displaced) →
    row_energy (row_of unknowns (observed (direction_terms points a b) deviation)) x
    ≡ weighted_square deviation
    (turned unknowns points x a b -ℤ pos coefficient_scale *ℤ moved unknowns x (unknown a component.Turn))

-- the energy of an angle: the change of the second bearing less that of the first one
abbrev pub AngleEnergy : Type 0
AngleEnergy =
    (unknowns : List Unknown) (points : List PointRecord) (a b c deviation : ℕ) (x : Displaced) →
    row_energy (row_of unknowns (observed (angle_terms points a b c) deviation)) x
    ≡ weighted_square deviation (turned unknowns points x a c -ℤ turned unknowns points x a b)

-- the energy of a difference of one component: of a level, and of each row of a vector
abbrev pub DifferenceEnergy : Type 0
DifferenceEnergy =
    (unknowns : List Unknown) (part : Component) (a b deviation : ℕ) (x : Displaced) →
    row_energy (row_of unknowns (observed (difference_terms part a b) deviation)) x
    ≡ weighted_square deviation (pos coefficient_scale *ℤ apart_by unknowns x part a b)
