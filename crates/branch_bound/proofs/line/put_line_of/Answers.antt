use Rattle.std.proofs.Common.{arith, refl, subst, sym}
use Rattle.std.specs.Result.{OnOk}
use Rattle.bound_log.specs.declared.log_leaf.LogLeaf.TheVariants as leaf
use Rattle.bound_log.specs.declared.log_line.LogLine.TheVariants as line
use Rattle.bound_log.specs.declared.named_line.NamedLine.TheVariants as named
use Rattle.branch_bound.specs.Cuts.{log_line_of, named_cuts}
use Rattle.branch_bound.specs.Spelled.{PutsLine}
use Rattle.branch_bound.specs.declared.node_line.NodeLine.{NodeLine}
use Rattle.branch_bound.proofs.PutLemmas.{on_ok}
use Rattle.branch_bound.proofs.SpellLemmas.{PutsLine-plain}
use Rattle.branch_bound.proofs.line.put_line_of.Goals as goal

pub returns-in-Split-clause-put : goal.returns-in-Split-clause-put
returns-in-Split-clause-put c =
    let names = named_cuts c.args.cuts.now in
    subst (λ (l : NodeLine). OnOk c.put_split.result (PutsLine names c.args.out.now.items c.put_split.new.out.items (log_line_of c.args.cuts.now.pool l) names)) (sym c.in-Split.is)
    (on_ok c.put_split.result _ _ (λ put. PutsLine-plain names c.args.out.now.items c.put_split.new.out.items (named.Split c.in-Split.candidate) (line.Split c.in-Split.candidate) put (omega arith, tt) refl refl) c.put_split.ensures.put)

pub returns-in-Cost-clause-put : goal.returns-in-Cost-clause-put
returns-in-Cost-clause-put c =
    let names = named_cuts c.args.cuts.now in
    subst (λ (l : NodeLine). OnOk c.put_cost.result (PutsLine names c.args.out.now.items c.put_cost.new.out.items (log_line_of c.args.cuts.now.pool l) names)) (sym c.in-Cost.is)
    (on_ok c.put_cost.result _ _ (λ put. PutsLine-plain names c.args.out.now.items c.put_cost.new.out.items named.Cost (line.Leaf leaf.Cost) put tt refl refl) c.put_cost.ensures.put)

pub returns-in-Pivot-clause-put : goal.returns-in-Pivot-clause-put
returns-in-Pivot-clause-put c =
    let names = named_cuts c.args.cuts.now in
    subst (λ (l : NodeLine). OnOk c.put_pivot.result (PutsLine names c.args.out.now.items c.put_pivot.new.out.items (log_line_of c.args.cuts.now.pool l) names)) (sym c.in-Pivot.is)
    (on_ok c.put_pivot.result _ _ (λ put. PutsLine-plain names c.args.out.now.items c.put_pivot.new.out.items (named.Pivot c.in-Pivot.limit) (line.Leaf (leaf.Pivot c.in-Pivot.limit)) put (omega arith, tt) refl refl) c.put_pivot.ensures.put)
