use Rattle.std.proofs.Common.{length, ap, ◌∙◌}
use Rattle.geo_model.specs.declared.plan.Node.{Node}
use Rattle.log_check.proofs.PlaceLemmas.{head_tail, next_long}
use Rattle.log_check.proofs.progress.Progress.close_at_price.Goals as goal

pub cost-price-requires : goal.cost-price-requires
cost-price-requires c =
    let stack = c.args.self.now.stack in
    let top = head_tail stack.nodes c.requires.some in
    ap (λ (n : Node). length n.inside) (c.top.ensures top.first top.rest top.is)
    ∙ (next_long c.args.network.now stack top.first top.rest c.requires.ready top.is).inside_long
