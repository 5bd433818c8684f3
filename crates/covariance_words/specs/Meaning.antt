-- What the limits of the network of two tables mean: a plan whose normal matrix has an inverse meets them exactly
-- where its standard ellipses, heights and redundancy numbers are within them. This project's own statement of it.
use Rattle.std.specs.Prelude.{◌≡◌, ◌≢◌, ◌↔◌, ℕ, ◌*◌, ◌≤◌, ℤ, pos, ◌+ℤ◌, ◌*ℤ◌, List, Bool, true, length, Some, slice_get}
use Rattle.covariance_law.specs.Vectors.{Matrix}
use Rattle.covariance_law.specs.Covariance.{IsAboveEigenvalues}
use Rattle.geo_model.specs.declared.network.Component.TheVariants as component
use Rattle.geo_model.specs.declared.network.Unknown.{Unknown}
use Rattle.geo_model.specs.Row.{Displaced, RowOf}
use Rattle.geo_model.specs.Candidate.{CandidateOf}
use Rattle.geo_model.specs.Energy.{energy}
use Rattle.geo_model.specs.Network.{NetworkOf}
use Rattle.geo_model.specs.Meeting.{MeetsLimit, MeetsLimits}
use Rattle.point_tables.specs.declared.part.Part.TheVariants as part
use Rattle.point_tables.specs.declared.record.PointRecord.{PointRecord}
use Rattle.candidate_tables.specs.declared.record.CandidateRecord.{CandidateRecord}
use Rattle.design_rows.specs.Unknowns.{unknown}
use Rattle.net_build.specs.Bounds.{AreTables}
use Rattle.net_build.specs.Build.{axis_limit, height_limit, redundancy_limit, network_of}
use Rattle.covariance_words.specs.Precision.{square_tenths, IsCovariance, HasAxisWithin, HasHeightWithin, HasRedundancy}

-- an unknown of a network stands at this number
abbrev pub UnknownStandsAt : NetworkOf → Unknown → ℕ → Type 0
UnknownStandsAt network wanted k = slice_get network.unknowns k ≡ Some wanted

-- c / d is the covariance matrix of a plan for the network of two accepted tables
pub record IsCovarianceOf
    (points : List PointRecord) (candidates : List CandidateRecord) (q : ℕ) (plan : List Bool)
    (c : Matrix) (d : ℤ) : Type 0
  where
    pub tables : AreTables points candidates q
    pub covariance : IsCovariance (network_of points candidates q) plan c d

-- ---- each limit

-- the bound on the variance in each direction is one on the eigenvalues of the point's 2 by 2 block: the semi-major
-- axis is the root of the greater one
abbrev pub AxesAreEigenvalues : Type 0
AxesAreEigenvalues =
    (c : Matrix) (d : ℤ) (x y s : ℕ) →
    HasAxisWithin c d x y s
    ↔ IsAboveEigenvalues (square_tenths *ℤ c x x) (square_tenths *ℤ (c x y +ℤ c y x)) (square_tenths *ℤ c y y)
    (pos (s * s) *ℤ d)

-- an axis limit is met exactly where the semi-major axis of the point's standard ellipse is within it
abbrev pub AxisLimitsBoundEllipses : Type 0
AxisLimitsBoundEllipses =
    (points : List PointRecord) (candidates : List CandidateRecord) (q : ℕ) (plan : List Bool) (c : Matrix) (d : ℤ)
    (place s x y : ℕ) →
    IsCovarianceOf points candidates q plan c d → 1 ≤ s →
    UnknownStandsAt (network_of points candidates q) (unknown place component.X) x →
    UnknownStandsAt (network_of points candidates q) (unknown place component.Y) y →
    MeetsLimit (network_of points candidates q) plan (axis_limit (network_of points candidates q).unknowns place s)
    ↔ HasAxisWithin c d x y s

-- a height limit is met exactly where the standard deviation of the point's height is within it
abbrev pub HeightLimitsBoundVariances : Type 0
HeightLimitsBoundVariances =
    (points : List PointRecord) (candidates : List CandidateRecord) (q : ℕ) (plan : List Bool) (c : Matrix) (d : ℤ)
    (place s z : ℕ) →
    IsCovarianceOf points candidates q plan c d → 1 ≤ s →
    UnknownStandsAt (network_of points candidates q) (unknown place component.Z) z →
    MeetsLimit (network_of points candidates q) plan (height_limit (network_of points candidates q).unknowns place s)
    ↔ HasHeightWithin c d z s

-- a redundancy limit is met exactly where the redundancy number of the candidate's row is at least q thousandths
abbrev pub RedundancyLimitsBoundRedundancies : Type 0
RedundancyLimitsBoundRedundancies =
    (points : List PointRecord) (candidates : List CandidateRecord) (q : ℕ) (plan : List Bool) (c : Matrix) (d : ℤ)
    (owner k : ℕ) (candidate : CandidateOf) (row : RowOf) →
    IsCovarianceOf points candidates q plan c d →
    slice_get (network_of points candidates q).candidates owner ≡ Some candidate →
    slice_get candidate.rows k ≡ Some row →
    MeetsLimit (network_of points candidates q) plan (redundancy_limit q owner (k, row))
    ↔ HasRedundancy (length (network_of points candidates q).unknowns) c d row q

-- ---- where the normal matrix has no inverse

-- a displacement leaves a point where it is, where a plan meets the point's axis or height limit of s
pub record StaysPut (network : NetworkOf) (plan : List Bool) (x : Displaced) (place s : ℕ) : Type 0 where
  pub plane : MeetsLimit network plan (axis_limit network.unknowns place s) → (i j : ℕ) →
      UnknownStandsAt network (unknown place component.X) i → UnknownStandsAt network (unknown place component.Y) j →
      (x i ≡ pos 0) × (x j ≡ pos 0)
  pub height : MeetsLimit network plan (height_limit network.unknowns place s) → (k : ℕ) →
      UnknownStandsAt network (unknown place component.Z) k → x k ≡ pos 0

-- a displacement that costs no energy leaves each point where it is whose limit is met
abbrev pub FreeMovementsLeaveLimitedPoints : Type 0
FreeMovementsLeaveLimitedPoints =
    (points : List PointRecord) (candidates : List CandidateRecord) (q : ℕ) (plan : List Bool) (x : Displaced)
    (place s : ℕ) →
    AreTables points candidates q → energy (network_of points candidates q).candidates plan x ≡ pos 0 →
    StaysPut (network_of points candidates q) plan x place s

-- ---- all limits

-- each new point's standard ellipse has a semi-major axis within its limit, each new height a standard deviation
-- within its limit, and, where q is not 0, each row of a chosen candidate a redundancy number of at least q thousandths
pub record IsPrecise
    (points : List PointRecord) (network : NetworkOf) (q : ℕ) (plan : List Bool) (c : Matrix) (d : ℤ) : Type 0
  where
    pub ellipses : (place s x y : ℕ) (point : PointRecord) →
        slice_get points place ≡ Some point → point.plane ≡ part.New s →
        UnknownStandsAt network (unknown place component.X) x → UnknownStandsAt network (unknown place component.Y) y →
        HasAxisWithin c d x y s
    pub heights : (place s z : ℕ) (point : PointRecord) →
        slice_get points place ≡ Some point → point.height ≡ part.New s →
        UnknownStandsAt network (unknown place component.Z) z → HasHeightWithin c d z s
    pub redundancies : (owner k : ℕ) (candidate : CandidateOf) (row : RowOf) →
        q ≢ 0 → slice_get plan owner ≡ Some true →
        slice_get network.candidates owner ≡ Some candidate → slice_get candidate.rows k ≡ Some row →
        HasRedundancy (length network.unknowns) c d row q

-- a plan with a covariance matrix meets the limits exactly where it is precise
abbrev pub LimitsMeanPrecision : Type 0
LimitsMeanPrecision =
    (points : List PointRecord) (candidates : List CandidateRecord) (q : ℕ) (plan : List Bool) (c : Matrix) (d : ℤ) →
    IsCovarianceOf points candidates q plan c d →
    MeetsLimits (network_of points candidates q) plan ↔ IsPrecise points (network_of points candidates q) q plan c d

-- ---- what a plan that meets the limits is

-- in a displacement that costs no energy no new point moves in plane, and none in height
pub record HoldsNewPoints (points : List PointRecord) (network : NetworkOf) (plan : List Bool) : Type 0 where
  pub planes : (x : Displaced) (place s i j : ℕ) (point : PointRecord) → energy network.candidates plan x ≡ pos 0 →
      slice_get points place ≡ Some point → point.plane ≡ part.New s →
      UnknownStandsAt network (unknown place component.X) i → UnknownStandsAt network (unknown place component.Y) j →
      (x i ≡ pos 0) × (x j ≡ pos 0)
  pub heights : (x : Displaced) (place s k : ℕ) (point : PointRecord) → energy network.candidates plan x ≡ pos 0 →
      slice_get points place ≡ Some point → point.height ≡ part.New s →
      UnknownStandsAt network (unknown place component.Z) k → x k ≡ pos 0

-- it holds the new points, and it is precise with its covariance matrix, where it has one
pub record HoldsAndIsPrecise (points : List PointRecord) (network : NetworkOf) (q : ℕ) (plan : List Bool) : Type 0 where
  pub holds : HoldsNewPoints points network plan
  pub precise : (c : Matrix) (d : ℤ) → IsCovariance network plan c d → IsPrecise points network q plan c d

abbrev pub MetLimitsHoldAndArePrecise : Type 0
MetLimitsHoldAndArePrecise =
    (points : List PointRecord) (candidates : List CandidateRecord) (q : ℕ) (plan : List Bool) →
    AreTables points candidates q → MeetsLimits (network_of points candidates q) plan →
    HoldsAndIsPrecise points (network_of points candidates q) q plan
