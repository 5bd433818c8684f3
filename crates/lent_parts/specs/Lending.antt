-- What becomes of a row that was lent for writing. This project's own.
use Rattle.std.specs.Prelude.{ℤ, List}
use Rattle.std.specs.Borrow.{Lends, MutBor, Fml, Array, i128}
use Rattle.lent_parts.specs.Triangle.{refilled}
use Rattle.lent_parts.specs.contracts.tri_row.TriRow.{the_row}

-- a row that was lent ends with the numbers that the borrower left in its places
abbrev pub LendsEntries : MutBor (List ℤ) → MutBor (List ℤ) → Fml
LendsEntries row entries = Lends the_row (Array i128 0) row entries (refilled row.now)
