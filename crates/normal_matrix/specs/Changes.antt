-- Rows that come into sums and leave them. This project's own.
use Rattle.std.specs.Prelude.{ℤ, pos, negsuc}
use Rattle.normal_matrix.specs.declared.change.Change.{Change}
use Rattle.normal_matrix.specs.declared.change.Change.TheVariants.{Add, Remove}

-- 1 for rows that come in, -1 for rows that leave
abbrev pub sign_of : Change → ℤ
sign_of Add = pos 1
sign_of Remove = negsuc 0
