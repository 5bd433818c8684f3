use Rattle.std.proofs.Common.{◌≤◌, ℕ, length, arith, below_more}
use Rattle.bound_log.specs.declared.bound.Bound.TheVariants.{AtLeast}
use Rattle.idle_splits.specs.UnitShares.{IsDearByKept}
use Rattle.idle_splits.proofs.ShareLemmas.{none_shows, found_none}
use Rattle.idle_splits.proofs.dear.dear_share.Goals as goal

pub loop-k-preserved : goal.loop-k-preserved
loop-k-preserved c =
    let P = λ (i : ℕ). (candidate : ℕ) → IsDearByKept c.args.network.now c.args.node.now (AtLeast c.args.earlier) c.args.cuts.now i candidate → ⊥ in
    below_more P c.loop-k.k c.loop-k.invariant (found_none c.first_dear_share-found.result c.is_some.result (P c.loop-k.k) c.is_some.ensures c.if-is_some.false c.first_dear_share-found.ensures.none)

pub returns-clause-none : goal.returns-clause-none
returns-clause-none c =
    let whole : length c.args.cuts.now.pool ≤ c.loop-k.k = let e = c.len-k-end.ensures.value in omega (arith, c.loop-k-test.false) in
    none_shows c.args.network.now c.args.node.now c.args.cuts.now c.args.earlier c.loop-k.k c.requires.cuts whole c.loop-k.invariant
