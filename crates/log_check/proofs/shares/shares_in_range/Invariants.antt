use Rattle.std.proofs.Common.{◌≡◌, length}
use Rattle.std.specs.List.{list_all}
use Rattle.log_check.specs.LineRoom.{IsLineRoom}
use Rattle.log_check.specs.Weighing.{is_share_in_range}
use Rattle.log_check.proofs.shares.shares_in_range.Given as goal

-- the shares so far pass
abbrev pub invariant-shares : goal.invariant-shares
invariant-shares l = record {
  passed : list_all (is_share_in_range l.network) l.fn.shares ≡ list_all (is_share_in_range l.network) l.left;
  kept : IsLineRoom l.network l.room;
}

abbrev pub decreases-shares : goal.decreases-shares
decreases-shares l = length l.left
