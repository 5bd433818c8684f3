use Rattle.std.proofs.Common.{List, Bool, sym, subst}
use Rattle.idle_splits.specs.Fillings.{IsPlanOf}
use Rattle.idle_splits.proofs.Filled.{put_in, place_in}
use Rattle.idle_splits.proofs.fill.fill_up.Goals as goal

pub set-requires : goal.set-requires
set-requires c = place_in c.args.node.now c.loop-offer.room _ c.loop-offer.invariant (c.is_open.ensures c.if-not-is_open.false)

pub loop-offer-preserved : goal.loop-offer-preserved
loop-offer-preserved c =
    subst (λ (plan : List Bool). IsPlanOf c.args.node.now plan) (sym c.set.ensures) (put_in c.args.node.now c.loop-offer.room _ c.loop-offer.invariant (c.is_open.ensures c.if-not-is_open.false))
