use Rattle.std.proofs.Common.{length}
use Rattle.log_check.specs.LineRoom.{IsLineRoom}
use Rattle.log_check.specs.Weighing.{Weighs}
use Rattle.log_check.proofs.dual.weigh.Given as goal

-- the shares so far are taken off
abbrev pub invariant-shares : goal.invariant-shares
invariant-shares l = record {
  weighs : Weighs l.network l.divisor l.fn.shares l.left l.room.reduced.items l.paid;
  kept : IsLineRoom l.network l.room;
}

abbrev pub decreases-shares : goal.decreases-shares
decreases-shares l = length l.left
