-- The whole-number grid on which the form of a limit is judged: an order of the unknowns, an exponent for each, and the
-- two matrices that the form is rounded to, one from below and one from above. This project's own.
use Rattle.std.specs.Prelude.{◌≡◌, ◌≢◌, ◌==◌, ℕ, ◌<◌, ◌≤◌, ◌^◌, ◌⊎◌, ℤ, pos, ◌-ℤ◌, ◌*ℤ◌, ◌≤ℤ◌, Bool, List, length, map, ◌++◌, unsigned_abs, not, All, Some, slice_get}
use Rattle.std.specs.List.{list_any, filter, range_with_len}
use Rattle.geo_base.specs.Grid.{exponent_of}
use Rattle.whole_algebra.specs.Matrices.{lower_over, upper_over}
use Rattle.whole_algebra.specs.Grid.{scaled, packed}
use Rattle.geo_model.specs.Row.{Entries, unit_at}
use Rattle.geo_model.specs.Candidate.{CandidateOf}
use Rattle.geo_model.specs.Energy.{full_energy}
use Rattle.geo_model.specs.Limit.{SquareOf, IsLoad, load}
use Rattle.geo_model.specs.Network.{NetworkOf}
use Rattle.normal_matrix.specs.Entries.{normal_entry, HasEachOnce}
use Rattle.normal_matrix.specs.Normal.{NormalOf, IsNormalOf}
use Rattle.limit_forms.specs.declared.order.OrderPart.{OrderPart}
use Rattle.limit_forms.specs.declared.order.OrderPart.TheVariants.{Loaded, Rest}
use Rattle.limit_forms.specs.Form.{load_entry, form_of, full_entry}

-- whether an unknown occurs in the squares
abbrev pub has_column : Entries → ℕ → Bool
has_column entries unknown = list_any (λ entry. entry.0 == unknown) entries

abbrev pub occurs : List SquareOf → ℕ → Bool
occurs squares unknown = list_any (λ square. has_column square.entries unknown) squares

-- whether an unknown is in a part: in that of those that occur in the squares, or in that of the others
abbrev pub is_in_part : List SquareOf → OrderPart → ℕ → Bool
is_in_part squares Loaded unknown = occurs squares unknown
is_in_part squares Rest unknown = not (occurs squares unknown)

-- the order of a limit's unknowns: those that occur in its squares, ascending, then the rest, ascending
unfoldable pub order_of : ℕ → List SquareOf → List ℕ
order_of n squares =
    filter (occurs squares) (range_with_len 0 n) ++ filter (λ unknown. not (occurs squares unknown)) (range_with_len 0 n)

-- the exponent of an unknown: that of the factor times the diagonal entry of the plan of all candidates
unfoldable pub exponent_at : List CandidateOf → ℤ → ℕ → ℤ
exponent_at candidates alpha unknown = exponent_of (alpha *ℤ full_entry candidates unknown unknown)

-- a grid: the unknown at each place, and the exponent of each unknown
pub record GridOf : Type 0 where
  pub order : List ℕ
  pub exponents : List ℤ

-- the grid of a limit with this factor and these squares; it depends on no plan
unfoldable pub grid_of : NetworkOf → ℤ → List SquareOf → GridOf
grid_of network alpha squares = record {
  order = order_of (length network.unknowns) squares;
  exponents = map (exponent_at network.candidates alpha) (range_with_len 0 (length network.unknowns));
}

-- what an unknown is scaled by: 2 to the power of 60 less its exponent
abbrev pub scale_of : List CandidateOf → ℤ → ℕ → ℤ
scale_of candidates alpha unknown = pos (2 ^ unsigned_abs (pos 60 -ℤ exponent_at candidates alpha unknown))

-- the scales of the unknowns, in the order of the grid
abbrev pub scales_of : NetworkOf → ℤ → List SquareOf → List ℤ
scales_of network alpha squares = map (scale_of network.candidates alpha) (order_of (length network.unknowns) squares)

-- the matrix of the form, in the order of the grid
abbrev pub form_matrix : NetworkOf → List Bool → ℤ → List SquareOf → List (List ℤ)
form_matrix network plan alpha squares =
    packed (form_of network.candidates plan alpha squares) (order_of (length network.unknowns) squares)

-- the form on the grid, times 2 ^ 120: a row and a column divided by 2 to their exponents
abbrev pub on_grid : NetworkOf → List Bool → ℤ → List SquareOf → List (List ℤ)
on_grid network plan alpha squares = scaled (scales_of network alpha squares) (form_matrix network plan alpha squares)

-- what the form on the grid is divided by
abbrev pub grid_step : ℤ
grid_step = pos (2 ^ 120)

-- the grid matrix from below, and the one from above
unfoldable pub lower_grid : NetworkOf → List Bool → ℤ → List SquareOf → List (List ℤ)
lower_grid network plan alpha squares = lower_over grid_step (on_grid network plan alpha squares)

unfoldable pub upper_grid : NetworkOf → List Bool → ℤ → List SquareOf → List (List ℤ)
upper_grid network plan alpha squares = upper_over grid_step (on_grid network plan alpha squares)

-- what the rows of both grid matrices are made of: the normal matrix of a plan, and the grid, the factor and the squares
-- of a limit
pub record IsFormOnGrid (network : NetworkOf) (normal : NormalOf) (grid : GridOf) (alpha : ℤ) (squares : List SquareOf) : Type 0 where
  pub normal_made : IsNormalOf network normal
  pub load : IsLoad (length network.unknowns) network.candidates alpha squares
  pub grid_made : grid ≡ grid_of network alpha squares

-- a grid of at most 64 unknowns: each stands at one place, and has an exponent
pub record IsGrid (grid : GridOf) : Type 0 where
  pub few : length grid.order ≤ 64
  pub exponents : length grid.exponents ≡ length grid.order
  pub below : All (λ unknown. unknown < length grid.order) grid.order
  pub once : HasEachOnce (length grid.order) grid.order

-- ---- limits whose load is small beside the energy

-- at a displacement of one unknown the load is at most a thousand times the factor times the energy of all candidates
abbrev pub IsNear : NetworkOf → ℤ → List SquareOf → Type 0
IsNear network alpha squares =
    (i : ℕ) → i < length network.unknowns →
    load squares (unit_at i) ≤ℤ (pos 1000 *ℤ (alpha *ℤ full_energy network.candidates (unit_at i)))

-- the load has no entry beside its diagonal
abbrev pub HasNoneBeside : List SquareOf → Type 0
HasNoneBeside squares = (i j : ℕ) → i ≢ j → load_entry squares i j ≡ pos 0

-- one of the two
abbrev pub IsLight : NetworkOf → ℤ → List SquareOf → Type 0
IsLight network alpha squares = IsNear network alpha squares ⊎ HasNoneBeside squares

-- ---- two plans whose first rows agree

-- the normal matrices of two plans have the same entries in the rows of the unknowns at the first places, so many of them
abbrev pub AgreeOnFirst : ℕ → NetworkOf → List Bool → List Bool → List SquareOf → Type 0
AgreeOnFirst count network plan other squares =
    (place unknown j : ℕ) → place < count → slice_get (order_of (length network.unknowns) squares) place ≡ Some unknown →
    normal_entry network.candidates plan unknown j ≡ normal_entry network.candidates other unknown j
