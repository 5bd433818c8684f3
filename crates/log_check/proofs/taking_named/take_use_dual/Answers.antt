use Rattle.std.proofs.Common.{length, map, sym, subst}
use Rattle.geo_model.specs.declared.plan.Node.{Node}
use Rattle.bound_log.specs.Meanings.{Meaning, named_meaning, share_used}
use Rattle.bound_log.specs.declared.named_line.NamedLine.TheVariants.{UseDual}
use Rattle.log_check.specs.FirstFault.{BreaksFirst, KeepsRules}
use Rattle.log_check.specs.Places.{HasEntries}
use Rattle.log_check.specs.Taking.{Does}
use Rattle.log_check.proofs.PlaceLemmas.{head_tail, next_long}
use Rattle.log_check.proofs.TakeLemmas.{weighed_taken}
use Rattle.log_check.proofs.UsingLemmas.{keeping_uses}
use Rattle.log_check.proofs.taking_named.take_use_dual.Goals as goal

pub broken_by_uses-requires-clause-node : goal.broken_by_uses-requires-clause-node
broken_by_uses-requires-clause-node c =
    let stack = c.args.progress.now.stack in
    let top = head_tail stack.nodes c.requires.some in
    subst (HasEntries (length c.args.network.now.candidates)) (sym (c.top-node.ensures top.first top.rest top.is))
    (next_long c.args.network.now stack top.first top.rest c.requires.ready top.is)

pub returns-in-Some-clause-stopped : goal.returns-in-Some-clause-stopped
returns-in-Some-clause-stopped c =
    let before = c.args.progress.now in
    let said = named_meaning before.cuts (UseDual c.args.divisor c.args.uses.now) in
    let top = head_tail before.stack.nodes c.requires.some in
    record {
      node = top.first;
      rest = top.rest;
      top = top.is;
      broken = subst (λ (n : Node). BreaksFirst c.args.network.now before.cuts n said c.in-Some.kind) (c.top-node.ensures top.first top.rest top.is) (sym c.in-Some.ensures);
    }

pub dual_bound_of_uses-least-requires-clause-node : goal.dual_bound_of_uses-least-requires-clause-node
dual_bound_of_uses-least-requires-clause-node c =
    let stack = c.args.progress.now.stack in
    let top = head_tail stack.nodes c.requires.some in
    subst (HasEntries (length c.args.network.now.candidates)) (sym (c.top-node.ensures top.first top.rest top.is))
    (next_long c.args.network.now stack top.first top.rest c.requires.ready top.is)

pub dual_bound_of_uses-least-requires-clause-named : goal.dual_bound_of_uses-least-requires-clause-named
dual_bound_of_uses-least-requires-clause-named c =
    (keeping_uses c.args.network.now c.args.progress.now.cuts c.top-node.result.now c.args.divisor c.args.uses.now (sym c.in_default.ensures)).named

pub dual_bound_of_uses-least-requires-clause-dual : goal.dual_bound_of_uses-least-requires-clause-dual
dual_bound_of_uses-least-requires-clause-dual c =
    (keeping_uses c.args.network.now c.args.progress.now.cuts c.top-node.result.now c.args.divisor c.args.uses.now (sym c.in_default.ensures)).dual

pub returns-clause-taken : goal.returns-clause-taken
returns-clause-taken c =
    let before = c.args.progress.now in
    let network = c.args.network.now in
    let said = named_meaning before.cuts (UseDual c.args.divisor c.args.uses.now) in
    let top = head_tail before.stack.nodes c.requires.some in
    let at_top = c.top-node.ensures top.first top.rest top.is in
    let keeps = subst (λ (n : Node). KeepsRules network before.cuts n said) at_top (sym c.in_default.ensures) in
    let means = keeping_uses network before.cuts top.first c.args.divisor c.args.uses.now keeps in
    record {
      node = top.first;
      rest = top.rest;
      top = top.is;
      keeps = keeps;
      does = subst (λ (m : Meaning). Does network top.first top.rest m before c.end_at_dual.new.self) (sym means.said)
          (weighed_taken network top.first top.rest c.args.divisor (map (share_used before.cuts) c.args.uses.now) c.dual_bound_of_uses-least.result c.top-node.result.now before _ at_top
          c.dual_bound_of_uses-least.ensures.value
          (c.end_at_dual.ensures c.args.divisor (map (share_used before.cuts) c.args.uses.now) top.first top.rest top.is));
    }
