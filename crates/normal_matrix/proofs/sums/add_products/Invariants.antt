use Rattle.std.proofs.Common.{◌≡◌, ℕ, ◌+◌, ◌<◌, length, take, ◌+ℤ◌, ◌*ℤ◌}
use Rattle.whole_algebra.specs.Matrices.{at}
use Rattle.normal_matrix.specs.Entries.{coefficient}
use Rattle.normal_matrix.proofs.sums.add_products.Given as goal

abbrev pub invariant-loop-column : goal.invariant-loop-column
invariant-loop-column l =
    (k : ℕ) → k < length l.line → at l.line k ≡ at l.initial.line k +ℤ l.factor *ℤ coefficient (take l.column-index l.entries) (l.first + k)
