use Rattle.std.proofs.Common.{◌≡◌, pos, ◌≤ℤ◌}
use Rattle.chain_step.specs.Step.{gap_at, sum_from}
use Rattle.chain_step.proofs.left_side.gaps_in_columns.Given as goal

abbrev pub invariant-loop-i : goal.invariant-loop-i
invariant-loop-i l = record {
  value : l.sum ≡ sum_from (gap_at l.pivot l.column) l.first l.i;
  low : pos 0 ≤ℤ l.sum;
  high : l.sum ≤ℤ pos l.i;
}
