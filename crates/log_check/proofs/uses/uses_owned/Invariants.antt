use Rattle.std.proofs.Common.{◌≡◌, length, true}
use Rattle.std.specs.List.{list_all}
use Rattle.bound_log.specs.Meanings.{cut_named, is_named}
use Rattle.log_check.specs.Weighing.{is_owned_at}
use Rattle.log_check.proofs.uses.uses_owned.Given as goal

-- the uses so far pass, and those that are left are of cuts that are named
abbrev pub invariant-uses : goal.invariant-uses
invariant-uses l = record {
  passed : list_all (λ one. is_owned_at l.network l.node (cut_named l.cuts one.1).limit) l.fn.uses ≡ list_all (λ one. is_owned_at l.network l.node (cut_named l.cuts one.1).limit) l.left;
  named : list_all (λ one. is_named l.cuts one.1) l.left ≡ true;
}

abbrev pub decreases-uses : goal.decreases-uses
decreases-uses l = length l.left
