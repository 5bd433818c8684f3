use Rattle.std.proofs.Common.{◌≡◌, length}
use Rattle.std.specs.List.{list_all}
use Rattle.log_check.specs.Naming.{is_use_in_range}
use Rattle.log_check.proofs.uses.uses_in_range.Given as goal

-- the uses so far pass
abbrev pub invariant-uses : goal.invariant-uses
invariant-uses l = list_all (is_use_in_range l.count) l.fn.uses ≡ list_all (is_use_in_range l.count) l.left

abbrev pub decreases-uses : goal.decreases-uses
decreases-uses l = length l.left
