-- The coordinates of points by their numbers. This project's own.
use Rattle.std.specs.Prelude.{ℕ, ℤ, pos, List, slice_get, unwrap_or, option_and_then}
use Rattle.point_tables.specs.declared.record.PointRecord.{PointRecord}

-- the coordinates of the point of this number in mm, and 0 where it has none
unfoldable pub x_at : List PointRecord → ℕ → ℤ
x_at points place = unwrap_or (option_and_then (λ point. point.x) (slice_get points place)) (pos 0)

unfoldable pub y_at : List PointRecord → ℕ → ℤ
y_at points place = unwrap_or (option_and_then (λ point. point.y) (slice_get points place)) (pos 0)
