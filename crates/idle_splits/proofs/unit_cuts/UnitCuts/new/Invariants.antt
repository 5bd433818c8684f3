use Rattle.std.proofs.Common.{◌<◌, ◌≤◌, ◌*◌, ℕ, length}
use Rattle.idle_splits.specs.UnitCuts.{HasUnitCut, KeepsUnitCuts}
use Rattle.idle_splits.proofs.unit_cuts.UnitCuts.new.Given as goal

abbrev pub invariant-loop-number : goal.invariant-loop-number
invariant-loop-number l = record {
  kept : KeepsUnitCuts l.network l.cuts;
  has : (k : ℕ) → k < l.number → (u : ℕ) → HasUnitCut l.network l.cuts.pool k u;
  few : length l.cuts.pool ≤ l.number * 64;
}
