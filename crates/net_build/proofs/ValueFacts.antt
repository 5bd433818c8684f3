-- With each of its values a limit of accepted tables keeps the bounds of limits.
use Rattle.std.proofs.Common.{◌<◌, ◌≤◌, ℕ, pos, ◌-ℤ◌, List, [], length, map, arith}
use Rattle.std.specs.Prelude.{All}
use Rattle.std.specs.List.{IsDistinct}
use Rattle.std.proofs.lemmas.List.Elements.{All-nil, All-append}
use Rattle.geo_model.specs.declared.network.Unknown.{Unknown}
use Rattle.geo_model.specs.Row.{RowOf}
use Rattle.geo_model.specs.Candidate.{CandidateOf, IsCandidate}
use Rattle.geo_model.specs.Limit.{LimitOf}
use Rattle.geo_model.specs.Network.{NetworkOf}
use Rattle.geo_model.specs.Values.{IsValueOf, BearsValue}
use Rattle.geo_model.proofs.RowLoads.{AreOwnRows, IsOwnRow, all-own-rows, row-load}
use Rattle.point_tables.specs.declared.record.PointRecord.{PointRecord}
use Rattle.point_tables.specs.Accepted.{IsAccepted}
use Rattle.candidate_tables.specs.declared.record.CandidateRecord.{CandidateRecord}
use Rattle.design_rows.specs.Unknowns.{is_same, unknowns_of}
use Rattle.design_rows.proofs.UnknownFacts.{unknowns-differ}
use Rattle.net_build.specs.Bounds.{AreTables}
use Rattle.net_build.specs.Build.{axis_limit, candidate_of, height_limit, limits_of, limits_of_candidate, limits_of_part, limits_of_point, network_of, network_on, point_limits, redundancy_limit, redundancy_limits}
use Rattle.net_build.proofs.ListFacts.{All-numbered, All-parts}
use Rattle.net_build.proofs.NetworkFacts.{candidates-bounded, owned-cases, owned_limits}
use Rattle.net_build.proofs.PointFacts.{axis-bounded, height-bounded, part-each}

-- with each of its values it keeps the bounds
abbrev pub BearsAll : NetworkOf → LimitOf → Type 0
BearsAll network limit = (value : ℕ) → IsValueOf limit.kind value → BearsValue network limit value

pub axis-bears : (network : NetworkOf) (place s : ℕ) → IsDistinct is_same network.unknowns → BearsAll network (axis_limit network.unknowns place s)
unfolding axis_limit
axis-bears network place s apart value is = (axis-bounded network apart place value is.0 is.1).bounded

pub height-bears : (network : NetworkOf) (place s : ℕ) → IsDistinct is_same network.unknowns → BearsAll network (height_limit network.unknowns place s)
unfolding height_limit
height-bears network place s apart value is = (height-bounded network apart place value is.0 is.1).bounded

row-bears : (network : NetworkOf) (q owner place : ℕ) (row : RowOf) → IsOwnRow (length network.unknowns) network.candidates row
    → BearsAll network (redundancy_limit q owner (place, row))
unfolding redundancy_limit
row-bears network q owner place row is value within = row-load (length network.unknowns) network.candidates value row within.1 is

points-bear : (network : NetworkOf) (points : List PointRecord) → IsDistinct is_same network.unknowns → All IsAccepted points
    → All (BearsAll network) (point_limits points network.unknowns)
unfolding point_limits limits_of_point
points-bear network points apart all =
    All-parts (BearsAll network) IsAccepted (limits_of_point network.unknowns) (length points) 0 points
    (λ place point within is. All-append (BearsAll network) (limits_of_part (axis_limit network.unknowns place) point.plane) (limits_of_part (height_limit network.unknowns place) point.height)
    (part-each (BearsAll network) (axis_limit network.unknowns place) point.plane is.plane (λ s least most. axis-bears network place s apart))
    (part-each (BearsAll network) (height_limit network.unknowns place) point.height is.height (λ s least most. height-bears network place s apart)))
    (omega arith) all

redundancies-bear : (network : NetworkOf) (q : ℕ) → All (AreOwnRows (length network.unknowns) network.candidates) network.candidates
    → All (BearsAll network) (redundancy_limits q network.candidates)
unfolding redundancy_limits limits_of_candidate
redundancies-bear network q all =
    All-parts (BearsAll network) (AreOwnRows (length network.unknowns) network.candidates) (limits_of_candidate q) (length network.candidates) 0 network.candidates
    (λ owner candidate inside rows. All-numbered (BearsAll network) (IsOwnRow (length network.unknowns) network.candidates) (redundancy_limit q owner) 0 candidate.rows
    (λ place row is. row-bears network q owner place row is) rows)
    (omega arith) all

limits-bear : (q : ℕ) (points : List PointRecord) (unknowns : List Unknown) (candidates : List CandidateOf) → IsDistinct is_same unknowns → All IsAccepted points
    → All (IsCandidate (length unknowns)) candidates → All (BearsAll (network_on q points unknowns candidates)) (limits_of q points unknowns candidates)
unfolding limits_of
limits-bear q points unknowns candidates apart accepted each =
    let network = network_on q points unknowns candidates in
    All-append (BearsAll network) (point_limits points unknowns) (owned_limits q candidates)
    (points-bear network points apart accepted)
    (owned-cases (All (BearsAll network)) q candidates (All-nil (BearsAll network)) (redundancies-bear network q (all-own-rows (length unknowns) candidates each)))

pub network-bears : (points : List PointRecord) (candidates : List CandidateRecord) (q : ℕ) → AreTables points candidates q
    → All (λ limit. (value : ℕ) → IsValueOf limit.kind value → BearsValue (network_of points candidates q) limit value) (network_of points candidates q).limits
unfolding network_of
network-bears points candidates q are =
    let unknowns = unknowns_of points candidates in
    let apart = unknowns-differ points candidates in
    limits-bear q points unknowns (map (candidate_of points unknowns) candidates) apart are.accepted (candidates-bounded points unknowns candidates apart are.against.each)
