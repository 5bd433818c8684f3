use Rattle.std.proofs.Common.{sym, subst}
use Rattle.bound_log.specs.declared.log_leaf.LogLeaf.{LogLeaf}
use Rattle.bound_log.specs.declared.log_line.LogLine.TheVariants.{Leaf}
use Rattle.bound_log.specs.Rules.{IsAllowedLine}
use Rattle.bound_log.proofs.AllowedLemmas.{cost_allowed}
use Rattle.log_check.proofs.rules.broken_by_leaf.Goals as goal

pub returns-in-Cost-clause-rule : goal.returns-in-Cost-clause-rule
returns-in-Cost-clause-rule c =
    sym (subst (λ (e : LogLeaf). IsAllowedLine c.args.network.now c.args.node.now (Leaf e)) (sym c.in-Cost.is) (cost_allowed c.args.network.now c.args.node.now))
