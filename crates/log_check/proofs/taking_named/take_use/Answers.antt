use Rattle.std.proofs.Common.{length, sym, subst}
use Rattle.geo_model.specs.declared.plan.Node.{Node}
use Rattle.bound_log.specs.Meanings.{Meaning, cut_named, named_meaning}
use Rattle.bound_log.specs.declared.named_line.NamedLine.TheVariants.{UseCut}
use Rattle.log_check.specs.FirstFault.{BreaksFirst, KeepsRules}
use Rattle.log_check.specs.Places.{HasEntries}
use Rattle.log_check.specs.Taking.{Does}
use Rattle.log_check.proofs.PlaceLemmas.{head_tail, next_long}
use Rattle.log_check.proofs.TakeLemmas.{used_taken}
use Rattle.log_check.proofs.UsingLemmas.{keeping_use}
use Rattle.log_check.proofs.taking_named.take_use.Goals as goal

pub broken_by_use-requires-clause-node : goal.broken_by_use-requires-clause-node
broken_by_use-requires-clause-node c =
    let stack = c.args.progress.now.stack in
    let top = head_tail stack.nodes c.requires.some in
    subst (HasEntries (length c.args.network.now.candidates)) (sym (c.top-node.ensures top.first top.rest top.is))
    (next_long c.args.network.now stack top.first top.rest c.requires.ready top.is)

pub returns-in-Some-clause-stopped : goal.returns-in-Some-clause-stopped
returns-in-Some-clause-stopped c =
    let before = c.args.progress.now in
    let said = named_meaning before.cuts (UseCut c.args.number) in
    let top = head_tail before.stack.nodes c.requires.some in
    record {
      node = top.first;
      rest = top.rest;
      top = top.is;
      broken = subst (λ (n : Node). BreaksFirst c.args.network.now before.cuts n said c.in-Some.kind) (c.top-node.ensures top.first top.rest top.is) (sym c.in-Some.ensures.rule);
    }

pub returns-clause-taken : goal.returns-clause-taken
returns-clause-taken c =
    let before = c.args.progress.now in
    let network = c.args.network.now in
    let said = named_meaning before.cuts (UseCut c.args.number) in
    let top = head_tail before.stack.nodes c.requires.some in
    let keeps = subst (λ (n : Node). KeepsRules network before.cuts n said) (c.top-node.ensures top.first top.rest top.is) (sym c.in_default.ensures.rule) in
    record {
      node = top.first;
      rest = top.rest;
      top = top.is;
      keeps = keeps;
      does = subst (λ (m : Meaning). Does network top.first top.rest m before c.end_at_cut.new.self) (sym (keeping_use network before.cuts top.first c.args.number keeps))
          (used_taken network top.first top.rest (cut_named before.cuts c.args.number) before _ (c.end_at_cut.ensures (cut_named before.cuts c.args.number) top.first top.rest top.is));
    }
