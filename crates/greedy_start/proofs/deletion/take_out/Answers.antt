use Rattle.std.proofs.Common.{sym, subst}
use Rattle.pivot_chain.specs.Certified.{IsCertified}
use Rattle.greedy_start.proofs.Restored.{restored, whichever}
use Rattle.greedy_start.proofs.deletion.take_out.Goals as goal

pub returns-then-is_some-clause-kept : goal.returns-then-is_some-clause-kept
returns-then-is_some-clause-kept c =
    whichever c.unmet_limit-unmet.result
    (restored c.args.plan.now c.set.new.self c.set-then-is_some.new.self c.args.candidate c.has-chosen.result c.has-chosen.ensures c.set.ensures c.set-then-is_some.ensures)

pub returns-then-is_some-clause-certified : goal.returns-then-is_some-clause-certified
returns-then-is_some-clause-certified c =
    subst (IsCertified c.args.network.now)
    (sym (restored c.args.plan.now c.set.new.self c.set-then-is_some.new.self c.args.candidate c.has-chosen.result c.has-chosen.ensures c.set.ensures c.set-then-is_some.ensures))
    c.requires.certified
