use Rattle.std.proofs.Common.{◌≡◌, ℕ, ◌+◌, ◌<◌, length}
use Rattle.lent_parts.specs.Triangle.{tri_row}
use Rattle.factor_stack.proofs.rows.put_rows.Given as goal

abbrev pub invariant-loop-place : goal.invariant-loop-place
invariant-loop-place l = record {
  places : length l.to ≡ length l.initial.to;
  before : (j : ℕ) → j < l.first → tri_row l.to j ≡ tri_row l.initial.to j;
  done : (j : ℕ) → l.first + j < l.place → tri_row l.to (l.first + j) ≡ tri_row l.from j;
}
