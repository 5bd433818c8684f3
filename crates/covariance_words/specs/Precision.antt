-- The words of an office for the precision of a plan: the covariance matrix of the unknowns, the standard ellipse of
-- a point, the variance of a height, the redundancy number of an observation. Sources: Ghilani and Wolf, Adjustment
-- Computations; Kuang, Geodetic Network Analysis and Optimal Design. Whole numbers over one divisor are this
-- project's own.
use Rattle.std.specs.Prelude.{ℕ, ◌*◌, ◌/◌, ◌^◌, ℤ, pos, ◌+ℤ◌, ◌-ℤ◌, ◌*ℤ◌, ◌≤ℤ◌, List, Bool, length}
use Rattle.covariance_law.specs.Vectors.{Matrix, inner, applied}
use Rattle.covariance_law.specs.Covariance.{IsInverse}
use Rattle.coefficient_round.specs.Coefficient.{coefficient_scale, square}
use Rattle.geo_model.specs.Row.{RowOf}
use Rattle.geo_model.specs.Network.{NetworkOf}
use Rattle.normal_matrix.specs.Entries.{coefficient, normal_entry}

-- c / d is the covariance matrix of the unknowns, with unit variance 1: the inverse of the plan's normal matrix
abbrev pub IsCovariance : NetworkOf → List Bool → Matrix → ℤ → Type 0
IsCovariance network plan c d = IsInverse (length network.unknowns) (normal_entry network.candidates plan) c d

-- What c / d is multiplied by to be in squares of a tenth of a mm. A row is 10 ^ 4 times that of a mm, so its square
-- 10 ^ 8 times. Its weight is 10 ^ 8 over the square of a deviation in hundredths of a mm, so 10 ^ 4 over the variance
-- in square mm. Hence the normal matrix is 10 ^ 12 times that of mm, and 10 ^ 12 times its inverse is in square mm, of
-- 100 square tenths.
abbrev pub square_tenths : ℤ
square_tenths = pos (square coefficient_scale * (10 ^ 8 / square 100) * square 10)

-- ---- the position of a point, by the numbers x and y of its two coordinates

-- d times the variance of its movement along the vector (u, v), from the 2 by 2 block of the covariance matrix
abbrev pub standard_ellipse : Matrix → (x y : ℕ) → (u v : ℤ) → ℤ
standard_ellipse c x y u v = c x x *ℤ (u *ℤ u) +ℤ (c x y +ℤ c y x) *ℤ (u *ℤ v) +ℤ c y y *ℤ (v *ℤ v)

-- The semi-major axis of the standard ellipse is at most s tenths of a mm: in no direction the variance is above s ^ 2.
-- The greatest variance along a vector of length 1 is the greatest eigenvalue of the block, the square of the axis.
abbrev pub HasAxisWithin : Matrix → ℤ → (x y s : ℕ) → Type 0
HasAxisWithin c d x y s =
    (u v : ℤ) → (square_tenths *ℤ standard_ellipse c x y u v) ≤ℤ (pos (s * s) *ℤ d *ℤ (u *ℤ u +ℤ v *ℤ v))

-- ---- the height of a point, by its number z

-- d times its variance
abbrev pub height_variance : Matrix → ℕ → ℤ
height_variance c z = c z z

-- its standard deviation is at most s tenths of a mm
abbrev pub HasHeightWithin : Matrix → ℤ → (z s : ℕ) → Type 0
HasHeightWithin c d z s = (square_tenths *ℤ height_variance c z) ≤ℤ (pos (s * s) *ℤ d)

-- ---- the redundancy of an observation, by its row a and its weight w

-- d times the redundancy number 1 - w a (c / d) a'
abbrev pub redundancy_number : ℕ → Matrix → ℤ → RowOf → ℤ
redundancy_number n c d row =
    d -ℤ row.weight *ℤ inner n (coefficient row.entries) (applied n c (coefficient row.entries))

-- it is at least q thousandths
abbrev pub HasRedundancy : ℕ → Matrix → ℤ → RowOf → ℕ → Type 0
HasRedundancy n c d row q = (pos q *ℤ d) ≤ℤ (pos 1000 *ℤ redundancy_number n c d row)
