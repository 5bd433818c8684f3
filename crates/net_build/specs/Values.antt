-- The limits of the network of accepted tables with other values. This project's own.
use Rattle.std.specs.Prelude.{ℕ, List, All}
use Rattle.geo_model.specs.Values.{IsValueOf, BearsValue}
use Rattle.point_tables.specs.declared.record.PointRecord.{PointRecord}
use Rattle.candidate_tables.specs.declared.record.CandidateRecord.{CandidateRecord}
use Rattle.net_build.specs.Bounds.{AreTables}
use Rattle.net_build.specs.Build.{network_of}

-- with each of its values a limit keeps the bounds of the limits of a network
abbrev pub BuiltLimitsBearValues : Type 0
BuiltLimitsBearValues =
    (points : List PointRecord) (candidates : List CandidateRecord) (q : ℕ) → AreTables points candidates q →
    All (λ limit. (value : ℕ) → IsValueOf limit.kind value → BearsValue (network_of points candidates q) limit value)
    (network_of points candidates q).limits
