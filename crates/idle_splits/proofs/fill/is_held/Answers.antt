use Rattle.std.proofs.Common.{◌∙◌, ap}
use Rattle.cut_pool.specs.Cut.{CutOf}
use Rattle.idle_splits.proofs.Filled.{held, long_as}
use Rattle.idle_splits.proofs.fill.is_held.Goals as goal

pub filling_of-first-requires-clause-plan : goal.filling_of-first-requires-clause-plan
filling_of-first-requires-clause-plan c = long_as c.args.node.now c.args.room.now _ c.requires.plan c.requires.upper

pub filling_of-second-requires-clause-plan : goal.filling_of-second-requires-clause-plan
filling_of-second-requires-clause-plan c = long_as c.args.node.now c.put_last.new.room _ c.put_last.ensures c.requires.upper

pub returns-clause-held : goal.returns-clause-held
returns-clause-held c = λ is.
    held c.args.network.now c.args.node.now c.args.cuts.now c.args.k c.args.earlier c.from-bound.result c.get-cut.result.now c.args.room.now c.put_last.new.room
    c.filling_of-first.result c.filling_of-second.result c.limits-bounds.ensures.bounds c.requires.plan c.put_last.ensures c.get-cut.ensures
    (c.from-bound.ensures ∙ ap (λ (v : CutOf). v.bound) c.cut.view_is) c.filling_of-first.ensures.filling c.filling_of-second.ensures.filling (c.is_mixed_below.ensures is)
