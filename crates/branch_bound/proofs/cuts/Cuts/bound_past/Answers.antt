use Rattle.std.proofs.Common.{subst, sym}
use Rattle.branch_bound.specs.Cuts.{SearchCuts, ArePoolFor}
use Rattle.branch_bound.proofs.DualLemmas.{are_shares, cuts_off, dual_writable, limits_in_range}
use Rattle.branch_bound.proofs.cuts.Cuts.bound_past.Goals as goal

pub bound_by-requires-clause-limits : goal.bound_by-requires-clause-limits
bound_by-requires-clause-limits c =
    let all : ArePoolFor c.args.network.now c.self.inside.pool = subst (λ (cs : SearchCuts). ArePoolFor c.args.network.now cs.pool) (sym c.self.view_is) c.requires.cuts.pool.each in
    limits_in_range c.args.network.now c.self.inside.pool all

pub leaf_bound-reached-requires-clause-shares : goal.leaf_bound-reached-requires-clause-shares
leaf_bound-reached-requires-clause-shares c =
    let all : ArePoolFor c.args.network.now c.self.inside.pool = subst (λ (cs : SearchCuts). ArePoolFor c.args.network.now cs.pool) (sym c.self.view_is) c.requires.cuts.pool.each in
    let found = rw c.in-Some.is at c.in_ok-dual.ensures.dual in
    rw c.as_slice-shares.ensures.value
    (are_shares c.args.network.now c.args.node.now c.self.inside.pool c.in-Some.dual c.candidates-bounds.ensures.bounds all found)

pub returns-clause-found : goal.returns-clause-found
returns-clause-found c =
    let all : ArePoolFor c.args.network.now c.self.inside.pool = subst (λ (cs : SearchCuts). ArePoolFor c.args.network.now cs.pool) (sym c.self.view_is) c.requires.cuts.pool.each in
    let found = rw c.in-Some.is at c.in_ok-dual.ensures.dual in
    let bound = rw c.as_slice-shares.ensures.value at c.leaf_bound-reached.ensures in
    cuts_off c.args.network.now c.args.node.now c.args.best.now c.self.inside.pool c.in-Some.dual c.leaf_bound-reached.result all found bound (c.is_past.ensures.0 c.if-not-is_past.false)

pub returns-clause-writable : goal.returns-clause-writable
returns-clause-writable c =
    let found = rw c.in-Some.is at c.in_ok-dual.ensures.dual in
    dual_writable c.args.network.now c.args.node.now c.self.inside.pool c.in-Some.dual found
