-- The size of the entries that certificates are reckoned with. This project's own choice.
use Rattle.std.specs.Prelude.{◌≤◌, ◌^◌, List, ℤ, unsigned_abs, All}

-- all numbers of a row are at most 2 ^ 61 in size
abbrev pub RowFits : List ℤ → Type 0
RowFits row = All (λ z. unsigned_abs z ≤ 2 ^ 61) row

-- all entries of a matrix are at most 2 ^ 61 in size
abbrev pub Fits : List (List ℤ) → Type 0
Fits rows = All RowFits rows
