use Rattle.std.proofs.Common.{◌≡◌, length, take}
use Rattle.log_check.proofs.open_nodes.copy_plan.Given as goal

-- the first entries are copied
abbrev pub invariant-loop-i : goal.invariant-loop-i
invariant-loop-i l = record {
  long : length l.to ≡ l.count;
  same : take l.i l.to ≡ take l.i l.from;
}
