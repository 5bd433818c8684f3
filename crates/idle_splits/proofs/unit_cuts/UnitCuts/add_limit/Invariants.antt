use Rattle.std.proofs.Common.{◌<◌, ◌≤◌, ◌+◌, ℕ, length}
use Rattle.idle_splits.specs.UnitCuts.{HasUnitCut, Grows}
use Rattle.idle_splits.proofs.unit_cuts.UnitCuts.add_limit.Given as goal

abbrev pub invariant-loop-unknown : goal.invariant-loop-unknown
invariant-loop-unknown l = record {
  grows : Grows l.network l.fn.self l.self;
  has : (u : ℕ) → u < l.unknown → HasUnitCut l.network l.self.pool l.number u;
  few : length l.self.pool ≤ length l.fn.self.pool + l.unknown;
}
