-- The unknowns of a network and their numbers. The order is this project's own.
use Rattle.std.specs.Prelude.{ℕ, List, [], ◌∷◌, ◌++◌, Bool, true, false, ◌&&◌, ◌==◌, if◌then◌else◌, Option, position}
use Rattle.std.specs.List.{enumerate_from, flat_map, list_any}
use Rattle.geo_model.specs.declared.network.Component.{Component}
use Rattle.geo_model.specs.declared.network.Component.TheVariants as component
use Rattle.geo_model.specs.declared.network.Unknown.{Unknown}
use Rattle.point_tables.specs.declared.part.Part.{Part}
use Rattle.point_tables.specs.declared.part.Part.TheVariants as part
use Rattle.point_tables.specs.declared.record.PointRecord.{PointRecord}
use Rattle.candidate_tables.specs.declared.record.CandidateRecord.{CandidateRecord}
use Rattle.candidate_tables.specs.Kinds.{rules_of}

-- a component of the point of this number
abbrev pub unknown : ℕ → Component → Unknown
unknown place part = record { point = place; component = part }

-- whether a part is to be measured
abbrev pub is_new : Part → Bool
is_new part.Absent = false
is_new part.Fixed = false
is_new (part.New limit) = true

-- x and y of the point of this number, where its plane part is new
abbrev pub plane_coordinates : ℕ → Part → List Unknown
plane_coordinates place plane = if is_new plane then unknown place component.X ∷ unknown place component.Y ∷ [] else []

-- z of the point of this number, where its height part is new
abbrev pub height_coordinates : ℕ → Part → List Unknown
height_coordinates place height = if is_new height then unknown place component.Z ∷ [] else []

-- the unknown coordinates of a point with its number
abbrev pub coordinates : ℕ × PointRecord → List Unknown
coordinates (place, point) = plane_coordinates place point.plane ++ height_coordinates place point.height

-- whether a candidate is observed against the orientation of the point of this number, as a direction from there is
abbrev pub turns_with : ℕ → CandidateRecord → Bool
turns_with place candidate = (rules_of candidate.kind).has_orientation && candidate.from == place

-- whether the point of this number has an orientation
abbrev pub is_oriented : List CandidateRecord → ℕ → Bool
is_oriented candidates place = list_any (turns_with place) candidates

-- the unknown orientation of a point with its number, if it has one
abbrev pub orientation : List CandidateRecord → ℕ × PointRecord → List Unknown
orientation candidates (place, point) = if is_oriented candidates place then unknown place component.Turn ∷ [] else []

-- the unknowns, each at its number: the coordinates point by point in the order of the points table, and then, in the same
-- order, the orientations
unfoldable pub unknowns_of : List PointRecord → List CandidateRecord → List Unknown
unknowns_of points candidates =
    flat_map coordinates (enumerate_from 0 points) ++ flat_map (orientation candidates) (enumerate_from 0 points)

-- ---- the number of an unknown

-- whether two components are the same
abbrev pub is_same_component : Component → Component → Bool
is_same_component component.X component.X = true
is_same_component component.Y component.Y = true
is_same_component component.Z component.Z = true
is_same_component component.Turn component.Turn = true
is_same_component first second = false

-- whether two unknowns are the same
abbrev pub is_same : Unknown → Unknown → Bool
is_same first second = is_same_component first.component second.component && first.point == second.point

-- the place of an unknown among others
unfoldable pub number_of : List Unknown → Unknown → Option ℕ
number_of unknowns wanted = position (is_same wanted) unknowns
