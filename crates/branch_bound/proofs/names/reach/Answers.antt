use Rattle.std.proofs.Common.{rules, ◌≡◌}
use Rattle.branch_bound.proofs.TellLemmas.{tell_same-kept, tell_same-more}
use Rattle.branch_bound.proofs.names.reach.Goals as goal

pub loop-names-preserved : goal.loop-names-preserved
loop-names-preserved c = tell_same-more c.args.names.now.items c.loop-names.names.items c.push.new.self.items c.loop-names.invariant c.in_ok-push.ensures.items

pub returns-in_err-push-clause-same : goal.returns-in_err-push-clause-same
returns-in_err-push-clause-same c =
    let kept : c.push.new.self.items ≡ c.loop-names.names.items = search rules in
    tell_same-kept c.args.names.now.items c.loop-names.names.items c.push.new.self.items c.loop-names.invariant kept
