use Rattle.std.proofs.Common.{◌≡◌, ◌≤◌, ℕ, length, ap, arith, below_more, subst}
use Rattle.bound_log.specs.declared.bound.Bound.TheVariants.{AtLeast}
use Rattle.idle_splits.specs.UnitShares.{IsDearByKept}
use Rattle.idle_splits.proofs.ShareLemmas.{shows_dear, no_further_candidate, not_told}
use Rattle.idle_splits.proofs.dear.first_dear_share.Goals as goal

pub returns-then-is_dear-clause-found : goal.returns-then-is_dear-clause-found
returns-then-is_dear-clause-found c =
    shows_dear c.args.network.now c.args.node.now c.args.cuts.now c.args.k c.args.earlier c.share_of-share.result c.requires.cuts c.share_of-share.ensures.share (c.is_dear.ensures.0 c.if-is_dear.true)

pub loop-candidate-preserved : goal.loop-candidate-preserved
loop-candidate-preserved c =
    let P = λ (j : ℕ). IsDearByKept c.args.network.now c.args.node.now (AtLeast c.args.earlier) c.args.cuts.now c.args.k j in
    below_more (λ j. P j → ⊥) c.loop-candidate.candidate c.loop-candidate.invariant
    (subst (λ (j : ℕ). P j → ⊥) c.share_of-share.ensures.candidate (not_told c.is_dear.result (P c.share_of-share.result.candidate) c.is_dear.ensures.1 c.if-is_dear.false))

pub returns-clause-none : goal.returns-clause-none
returns-clause-none c =
    let whole : length c.args.node.now.upper ≤ c.loop-candidate.candidate =
    let e : length c.candidates.result.now ≡ length c.args.network.now.candidates = ap length c.candidates.ensures.value in omega (arith, c.requires.upper, c.loop-candidate-test.false) in
    no_further_candidate c.args.network.now c.args.node.now c.args.cuts.now c.args.k c.args.earlier c.loop-candidate.candidate whole c.loop-candidate.invariant
