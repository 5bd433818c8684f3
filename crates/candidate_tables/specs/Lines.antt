-- The lines between points. The length is that of plane geometry; the bounds elsewhere are this project's own.
use Rattle.std.specs.Prelude.{ℕ, ◌-ℤ◌, List}
use Rattle.coefficient_round.specs.Coefficient.{square_length}
use Rattle.point_tables.specs.declared.record.PointRecord.{PointRecord}
pub use Rattle.point_tables.specs.Coordinates.{x_at, y_at}

-- the square of the plane length of the line between two points, in mm^2
unfoldable pub length_squared : List PointRecord → ℕ → ℕ → ℕ
length_squared points from to = square_length (x_at points to -ℤ x_at points from) (y_at points to -ℤ y_at points from)
