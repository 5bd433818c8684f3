use Rattle.std.proofs.Common.{◌≡◌, ℕ, ◌-◌, ◌<◌, ◌≤◌, take, pos, ◌≤ℤ◌}
use Rattle.whole_algebra.specs.Sums.{int_sum}
use Rattle.whole_algebra.specs.Rounding.{floor_over, gap_over}
use Rattle.whole_algebra.specs.Matrices.{at, entries}
use Rattle.whole_algebra.specs.Chains.{beside}
use Rattle.whole_algebra.specs.Grid.{row_at}
use Rattle.limit_forms.specs.Grid.{on_grid, grid_step}
use Rattle.limit_forms.proofs.row.write_right.Given as goal

abbrev pub invariant-loop-m : goal.invariant-loop-m
invariant-loop-m l = record {
  value : l.slack ≡ int_sum (take (l.m - 1) (beside (row_at (entries (gap_over grid_step) (on_grid l.form.network.now l.form.normal.now.plan l.form.alpha l.form.squares.now)) l.k)));
  low : pos 0 ≤ℤ l.slack;
  high : l.slack ≤ℤ pos (l.m - 1);
  lower : (i : ℕ) → 1 ≤ i → i < l.m → at l.lower i ≡ floor_over grid_step (at (row_at (on_grid l.form.network.now l.form.normal.now.plan l.form.alpha l.form.squares.now) l.k) i);
  upper : (i : ℕ) → 1 ≤ i → i < l.m → at l.upper i ≡ floor_over grid_step (at (row_at (on_grid l.form.network.now l.form.normal.now.plan l.form.alpha l.form.squares.now) l.k) i);
}
