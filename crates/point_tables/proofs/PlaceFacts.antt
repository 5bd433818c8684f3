-- The coordinates of the point at a place.
use Rattle.std.proofs.Common.{◌≡◌, ℕ, List, Some, refl, slice_get}
use Rattle.std.specs.Prelude.{pos, unwrap_or}
use Rattle.point_tables.specs.declared.record.PointRecord.{PointRecord}
use Rattle.point_tables.specs.Coordinates.{x_at, y_at}

pub x-at : (points : List PointRecord) (place : ℕ) (point : PointRecord) → slice_get points place ≡ Some point → unwrap_or point.x (pos 0) ≡ x_at points place
unfolding x_at
x-at points place point e = rw e refl

pub y-at : (points : List PointRecord) (place : ℕ) (point : PointRecord) → slice_get points place ≡ Some point → unwrap_or point.y (pos 0) ≡ y_at points place
unfolding y_at
y-at points place point e = rw e refl
