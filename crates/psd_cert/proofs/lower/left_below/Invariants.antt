use Rattle.std.proofs.Common.{◌≡◌, ℕ, ◌<◌, ◌-◌, length}
use Rattle.whole_algebra.specs.Matrices.{lower_over}
use Rattle.whole_algebra.specs.Chains.{matrix_after}
use Rattle.whole_algebra.specs.Grid.{row_at}
use Rattle.lent_parts.specs.Triangle.{IsTri, tri_row}
use Rattle.psd_cert.proofs.lower.left_below.Given as goal

abbrev pub invariant-loop-i : goal.invariant-loop-i
invariant-loop-i l = record {
  shape : IsTri (length l.current - 1) l.left;
  counts : length l.counts ≡ length l.current - 1;
  rows : (j : ℕ) → j < l.i → tri_row l.left j ≡ row_at (matrix_after lower_over 1 l.current) j;
}
