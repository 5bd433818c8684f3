-- Limits with another value, and the redundancy limit of any row. This project's own.
use Rattle.std.specs.Prelude.{ℕ, ◌*◌, ◌≤◌, ℤ, pos, ◌-ℤ◌, ◌*ℤ◌, [], ◌∷◌, Some, length}
use Rattle.geo_model.specs.Row.{RowOf}
use Rattle.geo_model.specs.Limit.{SquareOf, LimitOf, IsLoad}
use Rattle.geo_model.specs.Network.{NetworkOf}
use Rattle.geo_model.specs.declared.limit.LimitKind.{LimitKind}
use Rattle.geo_model.specs.declared.limit.LimitKind.TheVariants.{Axis, Height, Redundancy, Added}

-- the factor of a limit with this value: the square of an axis or a height in tenths of a mm, and 1000 less a redundancy in
-- thousandths; an added limit keeps its factor
abbrev pub factor_at : LimitKind → ℤ → ℕ → ℤ
factor_at (Axis point) factor value = pos (value * value)
factor_at (Height point) factor value = pos (value * value)
factor_at (Redundancy candidate row) factor value = pos 1000 -ℤ pos value
factor_at (Added number) factor value = factor

-- the limit with this value in place of its own
abbrev pub with_value : LimitOf → ℕ → LimitOf
with_value limit value = record limit { alpha = factor_at limit.kind limit.alpha value }

-- the values of a limit: an axis or a height from 0.1 to 100.0 mm, a redundancy from 0.001 to 0.999; an added limit has none
abbrev pub IsValueOf : LimitKind → ℕ → Type 0
IsValueOf (Axis point) value = (1 ≤ value) × (value ≤ 1000)
IsValueOf (Height point) value = (1 ≤ value) × (value ≤ 1000)
IsValueOf (Redundancy candidate row) value = (1 ≤ value) × (value ≤ 999)
IsValueOf (Added number) value = ⊥

-- the square of a row in a limit on its redundancy: 1000 times its weight
abbrev pub row_square : RowOf → SquareOf
row_square row = record { beta = pos 1000 *ℤ row.weight; entries = row.entries }

-- the limit on the redundancy of a row, by the numbers of its candidate and its own: at least so many thousandths
abbrev pub row_limit : ℕ → ℕ → RowOf → ℕ → LimitOf
row_limit owner place row value = record {
  kind = Redundancy owner place;
  owner = Some owner;
  alpha = pos 1000 -ℤ pos value;
  squares = row_square row ∷ [];
}

-- with this value a limit keeps the bounds of the limits of a network
abbrev pub BearsValue : NetworkOf → LimitOf → ℕ → Type 0
BearsValue network limit value = IsLoad (length network.unknowns) network.candidates (with_value limit value).alpha limit.squares
