use Rattle.std.proofs.Common.{ℕ, ◌<◌}
use Rattle.pivot_chain.specs.Certified.{IsMetAt}
use Rattle.pivot_chain.specs.Room.{IsRoomOf}
use Rattle.greedy_start.proofs.unmet.unmet_limit.Given as goal

abbrev pub invariant-loop-limit : goal.invariant-loop-limit
invariant-loop-limit l = record {
  room : IsRoomOf l.fn.network l.room;
  met : (k : ℕ) → k < l.limit → IsMetAt l.fn.network l.fn.plan k;
}
