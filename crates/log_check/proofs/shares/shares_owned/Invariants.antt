use Rattle.std.proofs.Common.{◌≡◌, length}
use Rattle.std.specs.List.{list_all}
use Rattle.log_check.specs.Weighing.{is_owned_at}
use Rattle.log_check.proofs.shares.shares_owned.Given as goal

-- the shares so far pass
abbrev pub invariant-shares : goal.invariant-shares
invariant-shares l =
    list_all (λ share. is_owned_at l.network l.node share.1.limit) l.fn.shares ≡ list_all (λ share. is_owned_at l.network l.node share.1.limit) l.left

abbrev pub decreases-shares : goal.decreases-shares
decreases-shares l = length l.left
