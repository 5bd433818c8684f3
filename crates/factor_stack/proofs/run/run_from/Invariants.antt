use Rattle.std.proofs.Common.{◌+◌, ◌≤◌, length}
use Rattle.factor_stack.specs.Running.{HaveRun, IsRoom, KeepsFirst}
use Rattle.factor_stack.proofs.run.run_from.Given as goal

abbrev pub invariant-loop-k : goal.invariant-loop-k
invariant-loop-k g l = record {
  run : HaveRun l.grids l.k l.factors;
  kept : KeepsFirst l.first l.initial.factors l.factors;
  room : IsRoom (length l.grids.network.now.unknowns) l.room;
  cost : l.steps + l.first ≤ l.initial.steps + l.k;
}
