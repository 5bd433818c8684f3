use Rattle.std.proofs.Common.{◌≡◌, ◌<◌, ℕ, false, length, get_or}
use Rattle.idle_splits.proofs.fill.copy_into.Given as goal

abbrev pub invariant-loop-i : goal.invariant-loop-i
invariant-loop-i l = record {
  long : length l.room ≡ l.count;
  same : (k : ℕ) → k < l.i → get_or l.room k false ≡ get_or l.plan k false;
}
