use Rattle.std.proofs.Common.{length, sym, subst}
use Rattle.geo_model.specs.declared.plan.Node.{Node}
use Rattle.bound_log.specs.Meanings.{standing}
use Rattle.log_check.specs.FirstFault.{BreaksFirst, KeepsRules}
use Rattle.log_check.specs.Places.{HasEntries}
use Rattle.log_check.proofs.PlaceLemmas.{head_tail, next_long}
use Rattle.log_check.proofs.standing.take_standing.Goals as goal

pub broken_rule-requires-clause-node : goal.broken_rule-requires-clause-node
broken_rule-requires-clause-node c =
    let stack = c.args.progress.now.stack in
    let top = head_tail stack.nodes c.requires.some in
    subst (HasEntries (length c.args.network.now.candidates)) (sym (c.top.ensures top.first top.rest top.is))
    (next_long c.args.network.now stack top.first top.rest c.requires.ready top.is)

pub returns-in-Some-clause-stopped : goal.returns-in-Some-clause-stopped
returns-in-Some-clause-stopped c =
    let before = c.args.progress.now in
    let top = head_tail before.stack.nodes c.requires.some in
    record {
      node = top.first;
      rest = top.rest;
      top = top.is;
      broken = subst (λ (n : Node). BreaksFirst c.args.network.now before.cuts n (standing c.args.line.now) c.in-Some.kind) (c.top.ensures top.first top.rest top.is) (sym c.in-Some.ensures.rule);
    }

pub returns-clause-taken : goal.returns-clause-taken
returns-clause-taken c =
    let before = c.args.progress.now in
    let top = head_tail before.stack.nodes c.requires.some in
    record {
      node = top.first;
      rest = top.rest;
      top = top.is;
      keeps = subst (λ (n : Node). KeepsRules c.args.network.now before.cuts n (standing c.args.line.now)) (c.top.ensures top.first top.rest top.is) (sym c.in_default.ensures.rule);
      does = c.take.ensures.taken top.first top.rest top.is;
    }
