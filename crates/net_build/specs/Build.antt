-- The network of two accepted tables: its unknowns, candidates and limits, and its fault where it is too large.
-- This project's own.
use Rattle.std.specs.Prelude.{ℕ, ◌*◌, ◌^◌, ◌==◌, nat_lt, pos, ◌-ℤ◌, ◌*ℤ◌, List, [], ◌∷◌, ◌++◌, length, map, sum_by, if◌then◌else◌, Option, Some, None}
use Rattle.std.specs.List.{enumerate_from, flat_map}
use Rattle.geo_model.specs.declared.limit.LimitKind.TheVariants as limit
use Rattle.geo_model.specs.declared.network.Component.TheVariants as component
use Rattle.geo_model.specs.declared.network.Unknown.{Unknown}
use Rattle.geo_model.specs.Row.{RowOf}
use Rattle.geo_model.specs.Candidate.{CandidateOf}
use Rattle.geo_model.specs.Limit.{SquareOf, LimitOf}
use Rattle.geo_model.specs.Network.{NetworkOf, network_of_lists}
use Rattle.point_tables.specs.declared.fault.FaultKind.{FaultKind}
use Rattle.point_tables.specs.declared.fault.FaultKind.TheVariants as fault
use Rattle.point_tables.specs.declared.part.Part.{Part}
use Rattle.point_tables.specs.declared.part.Part.TheVariants as part
use Rattle.point_tables.specs.declared.record.PointRecord.{PointRecord}
use Rattle.candidate_tables.specs.declared.record.CandidateRecord.{CandidateRecord}
use Rattle.design_rows.specs.Equations.{term}
use Rattle.design_rows.specs.Rows.{entries_of, rows_of}
use Rattle.design_rows.specs.Unknowns.{unknown, unknowns_of}

-- ---- the limits of a new point

-- 10 ^ 14 times the square of an unknown
unfoldable pub square_on : List Unknown → Unknown → SquareOf
square_on unknowns wanted = record {
  beta = pos (10 ^ 14);
  entries = entries_of unknowns (term (pos 1) wanted.component wanted.point ∷ []);
}

-- the limit on the semi-major axis of a point's standard ellipse, with a variance factor of 1, in tenths of a mm
unfoldable pub axis_limit : List Unknown → ℕ → ℕ → LimitOf
axis_limit unknowns place tenths = record {
  kind = limit.Axis place;
  owner = None;
  alpha = pos (tenths * tenths);
  squares = square_on unknowns (unknown place component.X) ∷ square_on unknowns (unknown place component.Y) ∷ [];
}

-- the limit on the standard deviation of a point's height, with a variance factor of 1, in tenths of a mm
unfoldable pub height_limit : List Unknown → ℕ → ℕ → LimitOf
height_limit unknowns place tenths = record {
  kind = limit.Height place;
  owner = None;
  alpha = pos (tenths * tenths);
  squares = square_on unknowns (unknown place component.Z) ∷ [];
}

-- the limit of a part, which it has where it is new
abbrev pub limits_of_part : (ℕ → LimitOf) → Part → List LimitOf
limits_of_part limit_of part.Absent = []
limits_of_part limit_of part.Fixed = []
limits_of_part limit_of (part.New tenths) = limit_of tenths ∷ []

-- the limits of a point with its number: that of its semi-major axis, and then that of its height
unfoldable pub limits_of_point : List Unknown → ℕ × PointRecord → List LimitOf
limits_of_point unknowns (place, point) =
    limits_of_part (axis_limit unknowns place) point.plane ++ limits_of_part (height_limit unknowns place) point.height

-- the limits of the points, in the order of the points table
unfoldable pub point_limits : List PointRecord → List Unknown → List LimitOf
point_limits points unknowns = flat_map (limits_of_point unknowns) (enumerate_from 0 points)

-- ---- the limits of a candidate's redundancy

-- the limit on the redundancy of a row, with its number, of the candidate of this number: at least q thousandths
unfoldable pub redundancy_limit : ℕ → ℕ → ℕ × RowOf → LimitOf
redundancy_limit q owner (place, row) = record {
  kind = limit.Redundancy owner place;
  owner = Some owner;
  alpha = pos 1000 -ℤ pos q;
  squares = record { beta = pos 1000 *ℤ row.weight; entries = row.entries } ∷ [];
}

-- the limits of a candidate with its number: one of each of its rows
unfoldable pub limits_of_candidate : ℕ → ℕ × CandidateOf → List LimitOf
limits_of_candidate q (owner, candidate) = map (redundancy_limit q owner) (enumerate_from 0 candidate.rows)

-- the limits of the candidates, in the order of the candidates table
unfoldable pub redundancy_limits : ℕ → List CandidateOf → List LimitOf
redundancy_limits q candidates = flat_map (limits_of_candidate q) (enumerate_from 0 candidates)

-- ---- the network

-- the limits: those of the points, and then, where q is not 0, those of the candidates
unfoldable pub limits_of : ℕ → List PointRecord → List Unknown → List CandidateOf → List LimitOf
limits_of q points unknowns candidates = point_limits points unknowns ++ (if q == 0 then [] else redundancy_limits q candidates)

-- a candidate: its price and its rows
abbrev pub candidate_of : List PointRecord → List Unknown → CandidateRecord → CandidateOf
candidate_of points unknowns candidate = record { price = candidate.price; rows = rows_of points unknowns candidate }

-- the network of these points, unknowns and candidates, without stations
abbrev pub network_on : ℕ → List PointRecord → List Unknown → List CandidateOf → NetworkOf
network_on q points unknowns candidates = network_of_lists unknowns candidates (limits_of q points unknowns candidates)

-- the network of two tables, with a redundancy limit of q thousandths
unfoldable pub network_of : List PointRecord → List CandidateRecord → ℕ → NetworkOf
network_of points candidates q =
    network_on q points (unknowns_of points candidates) (map (candidate_of points (unknowns_of points candidates)) candidates)

-- ---- its fault

-- how many rows the candidates have
unfoldable pub row_count : List PointRecord → List Unknown → List CandidateRecord → ℕ
row_count points unknowns candidates = sum_by (λ candidate. length (rows_of points unknowns candidate)) candidates

-- too many unknowns, or else too many rows, with their count
abbrev pub count_fault : ℕ → ℕ → Option (ℕ × FaultKind)
count_fault unknowns rows =
    if nat_lt 64 unknowns then Some (unknowns, fault.TooManyUnknowns)
    else (if nat_lt 512 rows then Some (rows, fault.TooManyRows) else None)

-- the fault of the network of two tables, if it is too large
unfoldable pub network_fault : List PointRecord → List CandidateRecord → Option (ℕ × FaultKind)
network_fault points candidates =
    count_fault (length (unknowns_of points candidates)) (row_count points (unknowns_of points candidates) candidates)
