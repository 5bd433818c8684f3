use Rattle.idle_splits.proofs.Filled.{long_as}
use Rattle.idle_splits.proofs.quick.quick_share_of.Goals as goal

pub returns-then-is_some-clause-room : goal.returns-then-is_some-clause-room
returns-then-is_some-clause-room c = long_as c.args.node.now c.fill-last.new.room _ c.fill-last.ensures.plan c.requires.upper

pub returns-then-is_held-clause-none : goal.returns-then-is_held-clause-none
returns-then-is_held-clause-none c = c.is_held.ensures.held c.if-is_held.true

pub returns-then-is_held-clause-room : goal.returns-then-is_held-clause-room
returns-then-is_held-clause-room c = long_as c.args.node.now c.is_held.new.room _ c.is_held.ensures.plan c.requires.upper

pub returns-clause-room : goal.returns-clause-room
returns-clause-room c = long_as c.args.node.now c.is_held.new.room _ c.is_held.ensures.plan c.requires.upper
