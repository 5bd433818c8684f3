use Rattle.std.proofs.Common.{ℕ, ◌-◌, ◌/◌, ◌^◌, ◌<◌, ◌≤◌}
use Rattle.cut_pool.proofs.cut.cut_shift.Given as goal

abbrev pub invariant-loop-shift : goal.invariant-loop-shift
invariant-loop-shift l = record {
  size : l.shift ≤ 96;
  least : (s : ℕ) → s < l.shift → 2 ^ 24 ≤ l.n / 2 ^ s;
}

abbrev pub decreases-loop-shift : goal.decreases-loop-shift
decreases-loop-shift l = 128 - l.shift
