-- The values that a report shows. Each is found by halving over the verdicts of a plan. This project's own.
use Rattle.std.specs.Prelude.{ℕ, ◌≤◌, zero, suc, ◌+◌, ◌/◌, nat_lt, Bool, true, false, not, List, if◌then◌else◌}
use Rattle.geo_model.specs.Row.{RowOf}
use Rattle.geo_model.specs.Network.{NetworkOf}
use Rattle.geo_model.specs.Values.{row_limit, IsValueOf, BearsValue}
use Rattle.geo_model.specs.declared.network.Unknown.{Unknown}
use Rattle.geo_model.specs.declared.verdict.Verdict.{Verdict}
use Rattle.geo_model.specs.declared.verdict.Verdict.TheVariants.{Met, Refuted, Open}
use Rattle.geo_model.specs.Limit.{LimitOf}
use Rattle.point_tables.specs.declared.part.Part.{Part}
use Rattle.point_tables.specs.declared.record.PointRecord.{PointRecord}
use Rattle.net_build.specs.Build.{axis_limit, height_limit}
use Rattle.pivot_chain.specs.Verdict.{verdict_of}
use Rattle.plan_report.specs.declared.length_kind.LengthKind.{LengthKind}
use Rattle.plan_report.specs.declared.length_kind.LengthKind.TheVariants as kind_of_length

abbrev pub is_met : Verdict → Bool
is_met Met = true
is_met Refuted = false
is_met (Open step lo hi) = false

-- Halving between two numbers, at most so many times: while they differ by more than 1, the number in the middle, rounded
-- down, replaces the upper one where it is high enough, and else the lower one. Both numbers are answered.
unfoldable pub halved : (ℕ → Bool) → ℕ → ℕ → ℕ → ℕ × ℕ
halved is_enough zero low high = (low, high)
halved is_enough (suc times) low high =
    if nat_lt (low + 1) high
    then (if is_enough ((low + high) / 2) then halved is_enough times low ((low + high) / 2) else halved is_enough times ((low + high) / 2) high)
    else (low, high)

-- The shown value of an axis or a height, by the verdict on each value: the upper number of the halving from 0 to the limit,
-- where a value is high enough if it is met. A halving takes as many steps as the numbers differ at most.
abbrev pub shown_length : (ℕ → Verdict) → ℕ → ℕ
shown_length verdict_at limit = (halved (λ value. is_met (verdict_at value)) limit 0 limit).1

-- The shown value of a redundancy: the lower number of the halving from the limit to 1000, where a value is high enough if it
-- isn't met.
abbrev pub shown_share : (ℕ → Verdict) → ℕ → ℕ
shown_share verdict_at limit = (halved (λ value. not (is_met (verdict_at value))) 1000 limit 1000).0

-- with each value from 0.1 to 100.0 mm a limit is one of an axis or a height, and keeps the bounds of limits
pub record TakesLengths (network : NetworkOf) (given : LimitOf) : Type 0 where
  pub value : (v : ℕ) → 1 ≤ v → v ≤ 1000 → IsValueOf given.kind v
  pub bounds : (v : ℕ) → 1 ≤ v → v ≤ 1000 → BearsValue network given v

-- ---- of a plan for a network

-- the part of a point that is limited: that of its plane, or of its height
abbrev pub limited_part : LengthKind → PointRecord → Part
limited_part kind_of_length.Axis point = point.plane
limited_part kind_of_length.Height point = point.height

-- the limit on the semi-major axis of the point of this number, or on its height
abbrev pub length_limit : LengthKind → List Unknown → ℕ → ℕ → LimitOf
length_limit kind_of_length.Axis unknowns place value = axis_limit unknowns place value
length_limit kind_of_length.Height unknowns place value = height_limit unknowns place value

-- what is shown of a point's axis or height, in tenths of a mm
unfoldable pub length_of : NetworkOf → List Bool → LengthKind → ℕ → ℕ → ℕ
length_of network plan kind place limit = shown_length (λ value. verdict_of network plan (length_limit kind network.unknowns place value)) limit

-- what is shown of the redundancy of a row, by the numbers of its candidate and its own, in thousandths
unfoldable pub redundancy_of : NetworkOf → List Bool → ℕ → ℕ → ℕ → RowOf → ℕ
redundancy_of network plan limit owner place row = shown_share (λ value. verdict_of network plan (row_limit owner place row value)) limit
