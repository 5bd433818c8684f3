use Rattle.std.proofs.Common.{◌≡◌, ℕ, ap, sym, ◌∙◌, subst}
use Rattle.std.specs.Prelude.{IfNone}
use Rattle.bound_log.specs.declared.bound.Bound.{Bound}
use Rattle.bound_log.specs.declared.bound.Bound.TheVariants.{AtLeast}
use Rattle.idle_splits.specs.Idle.{IsDearByUnit}
use Rattle.branch_bound.specs.Found.{best_bound}
use Rattle.branch_bound.specs.Cuts.{IsSearchPool, SearchCuts}
use Rattle.branch_bound.proofs.DearLemmas.{if_writable}
use Rattle.branch_bound.proofs.cuts.Cuts.dear_share.Goals as goal

pub returns-in-Certified-clause-none : goal.returns-in-Certified-clause-none
returns-in-Certified-clause-none c =
    let same : best_bound c.args.network.now c.args.best.now ≡ AtLeast c.cost.result = ap (best_bound c.args.network.now) c.in-Certified.is ∙ ap AtLeast (sym c.cost.ensures) in
    subst (λ (b : Bound). IfNone c.dear_share.result ((number unknown candidate : ℕ) → IsDearByUnit c.args.network.now c.args.node.now b number unknown candidate → ⊥))
    (sym same) c.dear_share.ensures.none

pub returns-in-Unsettled-clause-none : goal.returns-in-Unsettled-clause-none
returns-in-Unsettled-clause-none c =
    let same : best_bound c.args.network.now c.args.best.now ≡ AtLeast c.cost-in-Unsettled.result = ap (best_bound c.args.network.now) c.in-Unsettled.is ∙ ap AtLeast (sym c.cost-in-Unsettled.ensures) in
    subst (λ (b : Bound). IfNone c.dear_share-in-Unsettled.result ((number unknown candidate : ℕ) → IsDearByUnit c.args.network.now c.args.node.now b number unknown candidate → ⊥))
    (sym same) c.dear_share-in-Unsettled.ensures.none

pub returns-in-Certified-clause-writable : goal.returns-in-Certified-clause-writable
returns-in-Certified-clause-writable c =
    let is : IsSearchPool c.args.network.now c.self.inside.pool = subst (λ (cs : SearchCuts). IsSearchPool c.args.network.now cs.pool) (sym c.self.view_is) c.requires.cuts.pool in
    if_writable c.args.network.now c.args.node.now (AtLeast c.cost.result) c.self.inside.pool c.dear_share.result is c.dear_share.ensures.found

pub returns-in-Unsettled-clause-writable : goal.returns-in-Unsettled-clause-writable
returns-in-Unsettled-clause-writable c =
    let is : IsSearchPool c.args.network.now c.self.inside.pool = subst (λ (cs : SearchCuts). IsSearchPool c.args.network.now cs.pool) (sym c.self.view_is) c.requires.cuts.pool in
    if_writable c.args.network.now c.args.node.now (AtLeast c.cost-in-Unsettled.result) c.self.inside.pool c.dear_share-in-Unsettled.result is c.dear_share-in-Unsettled.ensures.found
