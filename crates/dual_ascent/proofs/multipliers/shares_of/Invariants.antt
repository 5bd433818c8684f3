use Rattle.std.proofs.Common.{◌≤◌, length, All}
use Rattle.dual_ascent.specs.Duals.{IsShareWithin}
use Rattle.dual_ascent.proofs.multipliers.shares_of.Given as goal

abbrev pub invariant-loop-multiplier : goal.invariant-loop-multiplier
invariant-loop-multiplier l = record {
  few : length l.shares.items ≤ 64;
  each : All (IsShareWithin l.fn.network l.fn.node l.fn.pool) l.shares.items;
}
