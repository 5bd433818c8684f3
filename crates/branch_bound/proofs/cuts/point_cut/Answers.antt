use Rattle.std.proofs.Common.{ap, Ok}
use borrow.Author.Count.{below_more}
use Rattle.geo_model.specs.Limit.{LimitOf}
use Rattle.idle_splits.specs.Idle.{IsLoadedAt}
use Rattle.branch_bound.proofs.cuts.point_cut.Goals as goal

pub loop-limit-preserved : goal.loop-limit-preserved
loop-limit-preserved c =
    below_more (λ number. (limit : LimitOf) → IsLoadedAt c.args.network.now number c.args.unknown limit → ⊥) c.loop-limit.limit c.loop-limit.invariant
    (c.in_ok-cut.ensures.none (ap Ok c.in-None.is))
