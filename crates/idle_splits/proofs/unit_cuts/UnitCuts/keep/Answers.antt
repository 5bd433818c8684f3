use Rattle.std.proofs.Common.{ap, Ok}
use Rattle.idle_splits.proofs.Kept.{kept_more, has_kept, has_same}
use Rattle.idle_splits.proofs.unit_cuts.UnitCuts.keep.Goals as goal

pub returns-in_ok-push-2-clause-grows : goal.returns-in_ok-push-2-clause-grows
returns-in_ok-push-2-clause-grows c =
    kept_more c.args.network.now c.args.self.now _ c.args.unknown c.args.cut c.requires.kept c.requires.unit (c.in_ok-add.ensures.added (ap Ok c.if-branch.true)) c.in_ok-push.ensures.items

pub returns-in_ok-push-2-clause-has : goal.returns-in_ok-push-2-clause-has
returns-in_ok-push-2-clause-has c = has_kept c.args.self.now.pool c.add.new.self c.args.cut (c.in_ok-add.ensures.added (ap Ok c.if-branch.true))

pub returns-else-branch-clause-has : goal.returns-else-branch-clause-has
returns-else-branch-clause-has c =
    has_same c.args.network.now c.args.self.now c.args.unknown c.args.cut c.add.new.self c.requires.kept c.requires.unit (c.in_ok-add.ensures.there (ap Ok c.if-branch.false)) (c.in_ok-add.ensures.kept (ap Ok c.if-branch.false))
