use Rattle.std.proofs.Common.{refl, inl, inr, subst}
use Rattle.bound_log.specs.Rules.{IsAllowedLine}
use Rattle.bound_log.specs.declared.log_leaf.LogLeaf.{LogLeaf}
use Rattle.bound_log.specs.declared.log_line.LogLine.TheVariants.{Leaf}
use Rattle.bound_log.proofs.AllowedLemmas.{dual_at}
use Rattle.log_check.proofs.TakeLemmas.{closed_by_cut, closed_by_dual, closed_by_pivot, closed_by_price}
use Rattle.log_check.proofs.progress.Progress.close.Goals as goal

pub returns-in-Cost-clause-ends : goal.returns-in-Cost-clause-ends
returns-in-Cost-clause-ends c = λ node rest is.
    closed_by_price c.args.network.now node rest c.args.leaf.now c.args.self.now _ c.in-Cost.is (c.close_at_price.ensures node rest is)

pub returns-in-Pivot-clause-ends : goal.returns-in-Pivot-clause-ends
returns-in-Pivot-clause-ends c = λ node rest is. elim c.in-Pivot.is [
  | inl pivot ↦ closed_by_pivot c.args.network.now node rest c.args.leaf.now pivot.0 c.args.self.now _ pivot.1 (c.pop.ensures node rest is) refl refl refl refl refl
  | inr cut ↦ closed_by_cut c.args.network.now node rest c.args.leaf.now cut.0 c.args.self.now _ cut.1 (c.pop.ensures node rest is) refl refl refl refl refl
]

pub close_at_dual-requires-clause-allowed : goal.close_at_dual-requires-clause-allowed
close_at_dual-requires-clause-allowed c = λ node rest is.
    dual_at c.args.network.now node c.in-Dual.divisor c.in-Dual.shares
    (subst (λ (end : LogLeaf). IsAllowedLine c.args.network.now node (Leaf end)) c.in-Dual.is (c.requires.allowed node rest is))

pub returns-in-Dual-clause-ends : goal.returns-in-Dual-clause-ends
returns-in-Dual-clause-ends c = λ node rest is.
    closed_by_dual c.args.network.now node rest c.args.leaf.now c.in-Dual.divisor c.in-Dual.shares c.args.self.now _ c.in-Dual.is (c.close_at_dual.ensures.ends node rest is)
