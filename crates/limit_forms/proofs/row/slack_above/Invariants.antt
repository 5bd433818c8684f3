use Rattle.std.proofs.Common.{◌≡◌, pos, ◌≤ℤ◌}
use Rattle.whole_algebra.specs.Rounding.{gap_over}
use Rattle.whole_algebra.specs.Matrices.{entries}
use Rattle.whole_algebra.specs.Grid.{above}
use Rattle.limit_forms.specs.Grid.{on_grid, grid_step}
use Rattle.limit_forms.proofs.row.slack_above.Given as goal

abbrev pub invariant-loop-row : goal.invariant-loop-row
invariant-loop-row l = record {
  value : l.slack ≡ above (entries (gap_over grid_step) (on_grid l.form.network.now l.form.normal.now.plan l.form.alpha l.form.squares.now)) l.k l.row;
  low : pos 0 ≤ℤ l.slack;
  high : l.slack ≤ℤ pos l.row;
}
