use Rattle.std.proofs.Common.{length, sym, subst}
use Rattle.geo_model.specs.declared.plan.Node.{Node}
use Rattle.bound_log.specs.LogTree.{IsDualLineAt}
use Rattle.log_check.specs.Places.{HasEntries}
use Rattle.log_check.proofs.PlaceLemmas.{head_tail, next_long}
use Rattle.log_check.proofs.progress.Progress.close_at_dual.Goals as goal

pub dual_bound_at-least-requires-clause-node : goal.dual_bound_at-least-requires-clause-node
dual_bound_at-least-requires-clause-node c =
    let stack = c.args.self.now.stack in
    let top = head_tail stack.nodes c.requires.some in
    subst (HasEntries (length c.args.network.now.candidates)) (sym (c.top.ensures top.first top.rest top.is))
    (next_long c.args.network.now stack top.first top.rest c.requires.ready top.is)

pub dual_bound_at-least-requires-clause-dual : goal.dual_bound_at-least-requires-clause-dual
dual_bound_at-least-requires-clause-dual c =
    let stack = c.args.self.now.stack in
    let top = head_tail stack.nodes c.requires.some in
    subst (λ (n : Node). IsDualLineAt c.args.network.now n c.args.divisor c.args.shares.now) (sym (c.top.ensures top.first top.rest top.is))
    (c.requires.allowed top.first top.rest top.is)
