-- What becomes of a triangle of which one row was lent for writing. This project's own.
use Rattle.std.specs.Prelude.{ℕ, ℤ, List, slice_set}
use Rattle.std.specs.Borrow.{Lends, MutBor, Fml, Array, i128}
use Rattle.lent_parts.specs.Triangle.{refilled, tri_row}
use Rattle.lent_parts.specs.contracts.tri.Tri.{the_row}

-- a triangle that lent row k ends with the numbers that the borrower left in the places of that row
abbrev pub LendsRow : MutBor (List (List ℤ)) → ℕ → MutBor (List ℤ) → Fml
LendsRow tri k entries =
    Lends the_row (Array i128 0) tri entries (λ filled. slice_set tri.now k (refilled (tri_row tri.now k) filled))
