use Rattle.std.specs.Prelude.{◌≢◌, ◌==◌, ℕ, ◌<◌, ◌≤◌, ◌^◌, ℤ, pos, ◌*ℤ◌, ◌≤ℤ◌, if◌then◌else◌, List, length, All, AllPairs, sum_by, unsigned_abs}
use Rattle.whole_algebra.specs.Sums.{int_sum_by}

-- Linear forms over the unknowns of a network, and the weighted rows of the design matrix.
-- Source: the observation equations of least squares adjustment, with whole numbers.

-- a displacement: a whole number for each unknown, by the unknown's number
abbrev pub Displaced : Type 0
Displaced = ℕ → ℤ

-- the displacement by 1 in one unknown
abbrev pub unit_at : ℕ → Displaced
unit_at unknown = λ i. if i == unknown then pos 1 else pos 0

-- a displacement as a log may have it: no entry above 2 ^ 15 in size (this project's own)
abbrev pub IsNarrow : Displaced → Type 0
IsNarrow x = (i : ℕ) → unsigned_abs (x i) ≤ 2 ^ 15

-- entries of a linear form: each is a column, that is the number of an unknown, and its coefficient
abbrev pub Entries : Type 0
Entries = List (ℕ × ℤ)

-- the value of a linear form at a displacement
abbrev pub form_at : Entries → Displaced → ℤ
form_at entries x = int_sum_by (λ entry. entry.1 *ℤ x entry.0) entries

-- the square of that value
abbrev pub form_squared : Entries → Displaced → ℤ
form_squared entries x = form_at entries x *ℤ form_at entries x

-- the sizes of the coefficients, added up
abbrev pub total_size : Entries → ℕ
total_size entries = sum_by (λ entry. unsigned_abs entry.1) entries

-- columns ascend, and no coefficient is 0
pub record IsSparse (entries : Entries) : Type 0 where
  pub ascending : AllPairs (λ entry later. entry.0 < later.0) entries
  pub nonzero : All (λ entry. entry.1 ≢ pos 0) entries

-- a weighted row of the design matrix
pub record RowOf : Type 0 where
  pub entries : List (ℕ × ℤ)
  pub weight : ℤ

-- the bounds of a row (this project's own)
pub record IsRow (row : RowOf) : Type 0 where
  pub sparse : IsSparse row.entries
  pub short : length row.entries ≤ 6
  pub each_size : All (λ entry. unsigned_abs entry.1 < 2 ^ 21) row.entries
  pub total : total_size row.entries < 2 ^ 23
  pub weight_low : pos 1 ≤ℤ row.weight
  pub weight_high : row.weight ≤ℤ pos 1000000

-- what a row adds to the energy of a displacement: its weight times the square of its form
abbrev pub row_energy : RowOf → Displaced → ℤ
row_energy row x = row.weight *ℤ form_squared row.entries x
