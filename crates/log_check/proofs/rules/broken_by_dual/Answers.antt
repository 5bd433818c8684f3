use Rattle.std.proofs.Common.{sym}
use Rattle.log_check.proofs.RuleLemmas.{dual_out_of_range, dual_owner_broken, dual_kept}
use Rattle.log_check.proofs.rules.broken_by_dual.Goals as goal

pub returns-then-not-dual_in_range-clause-rule : goal.returns-then-not-dual_in_range-clause-rule
returns-then-not-dual_in_range-clause-rule c =
    sym (dual_out_of_range c.args.network.now c.args.node.now c.args.divisor c.args.shares.now (sym c.if-not-dual_in_range.ensures.are))

pub returns-then-not-shares_owned-clause-rule : goal.returns-then-not-shares_owned-clause-rule
returns-then-not-shares_owned-clause-rule c =
    sym (dual_owner_broken c.args.network.now c.args.node.now c.args.divisor c.args.shares.now (sym c.if-not-dual_in_range.ensures.are) (sym c.if-not-shares_owned.ensures))

pub returns-clause-rule : goal.returns-clause-rule
returns-clause-rule c =
    sym (dual_kept c.args.network.now c.args.node.now c.args.divisor c.args.shares.now (sym c.if-not-dual_in_range.ensures.are) (sym c.if-not-shares_owned.ensures))
