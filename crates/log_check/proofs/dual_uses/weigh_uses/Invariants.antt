use Rattle.std.proofs.Common.{length, map}
use Rattle.std.specs.Prelude.{All, ◌<◌, ◌≤◌, ◌^◌}
use Rattle.bound_log.specs.Meanings.{share_used}
use Rattle.log_check.specs.LineRoom.{IsLineRoom}
use Rattle.log_check.specs.Weighing.{Weighs}
use Rattle.log_check.proofs.dual_uses.weigh_uses.Given as goal

-- the uses so far are taken off
abbrev pub invariant-uses : goal.invariant-uses
invariant-uses l = record {
  weighs : Weighs l.network l.divisor (map (share_used l.cuts) l.fn.uses) (map (share_used l.cuts) l.left) l.room.reduced.items l.paid;
  each : All (λ one. (one.0 ≤ 2 ^ 44) × (one.1 < length l.cuts)) l.left;
  kept : IsLineRoom l.network l.room;
}

abbrev pub decreases-uses : goal.decreases-uses
decreases-uses l = length l.left
