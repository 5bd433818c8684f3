use Rattle.std.proofs.Common.{List, Bool, sym, subst}
use Rattle.idle_splits.specs.Fillings.{IsPlanOf}
use Rattle.idle_splits.proofs.Filled.{put_in, place_in}
use Rattle.idle_splits.proofs.fill.put_last.Goals as goal

pub set-requires : goal.set-requires
set-requires c =
    let may = rw c.in-Some.is at c.requires.last in
    place_in c.args.node.now c.args.room.now c.in-Some.candidate c.requires.plan may

pub returns-in-Some : goal.returns-in-Some
returns-in-Some c =
    let may = rw c.in-Some.is at c.requires.last in
    subst (λ (plan : List Bool). IsPlanOf c.args.node.now plan) (sym c.set.ensures) (put_in c.args.node.now c.args.room.now c.in-Some.candidate c.requires.plan may)
