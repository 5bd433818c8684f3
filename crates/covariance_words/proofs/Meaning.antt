-- What the limits of the network of two tables mean.
use Rattle.std.proofs.Common.{Bool, ◌≡◌, ℕ, ◌<◌, Some, slice_get, List, length}
use Rattle.geo_model.specs.Network.{NetworkOf}
use Rattle.geo_model.specs.Row.{RowOf, IsRow}
use Rattle.geo_model.specs.Candidate.{IsCandidate}
use Rattle.std.specs.Prelude.{All, ℤ}
use Rattle.point_tables.specs.declared.record.PointRecord.{PointRecord}
use Rattle.candidate_tables.specs.declared.record.CandidateRecord.{CandidateRecord}
use Rattle.design_rows.proofs.UnknownFacts.{unknowns-differ}
use Rattle.net_build.specs.Bounds.{AreTables}
use Rattle.net_build.specs.Build.{network_of}
use Rattle.net_build.proofs.NetworkFacts.{network-bounded}
use Rattle.std.proofs.Common.{◌≤◌}
use Rattle.geo_model.specs.Limit.{LimitOf, IsInForce}
use Rattle.geo_model.specs.Meeting.{MeetsLimit, MeetsLimits}
use Rattle.point_tables.specs.Accepted.{IsAccepted}
use Rattle.point_tables.specs.declared.part.Part.TheVariants as part
use Rattle.net_build.specs.Build.{axis_limit, height_limit, redundancy_limit}
use Rattle.covariance_words.specs.Meaning.{AxisLimitsBoundEllipses, FreeMovementsLeaveLimitedPoints, HeightLimitsBoundVariances, IsPrecise, LimitsMeanPrecision, MetLimitsHoldAndArePrecise, RedundancyLimitsBoundRedundancies}
use Rattle.covariance_words.proofs.Members.{axis-in_force, axis-there, height-in_force, height-there, limits-all, redundancy-in_force, redundancy-owner, redundancy-there, x-there, y-there, z-there}
use Rattle.covariance_words.proofs.Limits.{IsOrderly, All-at, axis-law, axis-still, height-law, height-still, redundancy-law}

pub orderly : (points : List PointRecord) (candidates : List CandidateRecord) (q : ℕ) → AreTables points candidates q → IsOrderly (network_of points candidates q)
unfolding network_of
orderly points candidates q are =
    let bounds = network-bounded points candidates q are in
    record { apart = unknowns-differ points candidates; candidates = (bounds.0).each_candidate }

pub axes-mean : AxisLimitsBoundEllipses
axes-mean points candidates q plan c d place s x y is least at_x at_y =
    axis-law (network_of points candidates q) plan c d place s x y (orderly points candidates q is.tables) is.covariance least at_x at_y

pub heights-mean : HeightLimitsBoundVariances
heights-mean points candidates q plan c d place s k is least at =
    height-law (network_of points candidates q) plan c d place s k (orderly points candidates q is.tables) is.covariance least at

pub redundancies-mean : RedundancyLimitsBoundRedundancies
redundancies-mean points candidates q plan c d owner k candidate row is at_owner at_row =
    let network = network_of points candidates q in
    let n = length network.unknowns in
    let order = orderly points candidates q is.tables in
    let bounds = All-at (IsCandidate n) network.candidates owner candidate order.candidates at_owner in
    redundancy-law network plan c d q owner k row order is.covariance is.tables.redundancy
    (All-at IsRow candidate.rows k row bounds.rows at_row)
    (All-at (λ (r : RowOf). All (λ (entry : ℕ × ℤ). entry.0 < n) r.entries) candidate.rows k row bounds.columns at_row)

pub movements-mean : FreeMovementsLeaveLimitedPoints
movements-mean points candidates q plan x place s are none =
    let network = network_of points candidates q in
    let order = orderly points candidates q are in
    record {
      plane = λ meets i j at_i at_j. axis-still network plan x place s i j order none meets at_i at_j;
      height = λ meets k at. height-still network plan x place s k order none meets at;
    }

-- ---- all limits
pub limits-mean : LimitsMeanPrecision
unfolding network_of
limits-mean points candidates q plan c d is = (down, up)
  where
    network : NetworkOf
    network = network_of points candidates q

    holds : LimitOf → Type 0
    holds limit = IsInForce limit plan → MeetsLimit network plan limit

    low_plane : (place s : ℕ) (point : PointRecord) → slice_get points place ≡ Some point → point.plane ≡ part.New s → 1 ≤ s
    low_plane place s point at new = ((All-at IsAccepted points place point is.tables.accepted at).plane s new).0

    low_height : (place s : ℕ) (point : PointRecord) → slice_get points place ≡ Some point → point.height ≡ part.New s → 1 ≤ s
    low_height place s point at new = ((All-at IsAccepted points place point is.tables.accepted at).height s new).0

    down : MeetsLimits network plan → IsPrecise points network q plan c d
    down meets = record {
      ellipses = λ place s x y point at new at_x at_y.
          let there = axis-there q points network.unknowns network.candidates place s point at new in
          (axes-mean points candidates q plan c d place s x y is (low_plane place s point at new) at_x at_y).0
          (All-at holds network.limits there.0 (axis_limit network.unknowns place s) meets there.1 (axis-in_force network.unknowns place s plan));
      heights = λ place s k point at new at_z.
          let there = height-there q points network.unknowns network.candidates place s point at new in
          (heights-mean points candidates q plan c d place s k is (low_height place s point at new) at_z).0
          (All-at holds network.limits there.0 (height_limit network.unknowns place s) meets there.1 (height-in_force network.unknowns place s plan));
      redundancies = λ owner k candidate row some chosen at at_row.
          let there = redundancy-there q points network.unknowns network.candidates owner k candidate row some at at_row in
          (redundancies-mean points candidates q plan c d owner k candidate row is at at_row).0
          (All-at holds network.limits there.0 (redundancy_limit q owner (k, row)) meets there.1 (redundancy-in_force q owner k row plan chosen));
    }

    up : IsPrecise points network q plan c d → MeetsLimits network plan
    up precise =
        limits-all q points network.unknowns network.candidates holds
        (λ place s point at new force.
        let x = x-there points candidates place s point at new in
        let y = y-there points candidates place s point at new in
        (axes-mean points candidates q plan c d place s x.0 y.0 is (low_plane place s point at new) x.1 y.1).1
        (precise.ellipses place s x.0 y.0 point at new x.1 y.1))
        (λ place s point at new force.
        let z = z-there points candidates place s point at new in
        (heights-mean points candidates q plan c d place s z.0 is (low_height place s point at new) z.1).1
        (precise.heights place s z.0 point at new z.1))
        (λ owner k candidate row some at at_row force.
        (redundancies-mean points candidates q plan c d owner k candidate row is at at_row).1
        (precise.redundancies owner k candidate row some (redundancy-owner q owner k row plan force) at at_row))

-- ---- what a plan that meets them is
axis-met : (points : List PointRecord) (candidates : List CandidateRecord) (q : ℕ) (plan : List Bool) (place s : ℕ) (point : PointRecord)
    → MeetsLimits (network_of points candidates q) plan → slice_get points place ≡ Some point → point.plane ≡ part.New s
    → MeetsLimit (network_of points candidates q) plan (axis_limit (network_of points candidates q).unknowns place s)
unfolding network_of
axis-met points candidates q plan place s point meets at new =
    let network = network_of points candidates q in
    let there = axis-there q points network.unknowns network.candidates place s point at new in
    All-at (λ limit. IsInForce limit plan → MeetsLimit network plan limit) network.limits there.0 (axis_limit network.unknowns place s) meets there.1
    (axis-in_force network.unknowns place s plan)

height-met : (points : List PointRecord) (candidates : List CandidateRecord) (q : ℕ) (plan : List Bool) (place s : ℕ) (point : PointRecord)
    → MeetsLimits (network_of points candidates q) plan → slice_get points place ≡ Some point → point.height ≡ part.New s
    → MeetsLimit (network_of points candidates q) plan (height_limit (network_of points candidates q).unknowns place s)
unfolding network_of
height-met points candidates q plan place s point meets at new =
    let network = network_of points candidates q in
    let there = height-there q points network.unknowns network.candidates place s point at new in
    All-at (λ limit. IsInForce limit plan → MeetsLimit network plan limit) network.limits there.0 (height_limit network.unknowns place s) meets there.1
    (height-in_force network.unknowns place s plan)

pub met-limits-mean : MetLimitsHoldAndArePrecise
met-limits-mean points candidates q plan are meets = record {
  holds = record {
    planes = λ x place s i j point none at new at_i at_j.
        (movements-mean points candidates q plan x place s are none).plane (axis-met points candidates q plan place s point meets at new) i j at_i at_j;
    heights = λ x place s k point none at new at_k.
        (movements-mean points candidates q plan x place s are none).height (height-met points candidates q plan place s point meets at new) k at_k;
  };
  precise = λ c d covariance. (limits-mean points candidates q plan c d (record { tables = are; covariance = covariance })).0 meets;
}
