use Rattle.std.proofs.Common.{◌≡◌, ◌∙◌, ◌*◌, ◌^◌, ◌<◌, ◌≤◌, ℕ, pos, ◌-ℤ◌, List, length, get_or, arith, ap, ap₂, subst, sym}
use Rattle.std.specs.Prelude.{All}
use Rattle.whole_algebra.specs.Matrices.{at}
use Rattle.cut_pool.specs.Cut.{CutOf}
use Rattle.geo_model.specs.Prices.{prices_of}
use Rattle.reduced_sums.proofs.ReducedLemmas.{product_small}
use Rattle.reduced_sums.proofs.WeighedLemmas.{weighed_start}
use Rattle.dual_bound.specs.Shares.{IsShare}
use Rattle.dual_bound.proofs.ShareLemmas.{nothing, share_at, weighed_next, small_so_far}
use Rattle.dual_bound.proofs.weighing.weigh.Goals as goal

pub loop-share-init : goal.loop-share-init
loop-share-init c = record {
  weighed = weighed_start (prices_of c.args.network.now) c.args.d _ c.write_prices.ensures.prices c.write_prices.ensures.small;
}

-- the coefficients of the cut of a share
coefficients_are : (c : goal.After-as_slice) → c.as_slice.result.now ≡ c.get-cut.result.now.coefficients
coefficients_are c = c.as_slice.ensures.value ∙ ap (λ (v : CutOf). v.coefficients) c.cut.view_is

share_of : (c : goal.After-as_slice) → IsShare (length c.args.network.now.candidates) c.args.pool.now (get_or c.args.shares.now c.loop-share.share-index nothing)
share_of c = share_at _ _ c.args.d c.args.shares.now c.loop-share.share-index c.requires.shares c.loop-share-test.true

pub take_off-requires-clause-places : goal.take_off-requires-clause-places
take_off-requires-clause-places c =
    let small = (share_of c).small c.get-cut.result.now c.get-cut.ensures in
    omega (arith, small.each, ap length (coefficients_are c), c.requires.places, c.write_prices.auto.reduced, c.loop-share.auto.reduced)

pub take_off-requires-clause-coefficients : goal.take_off-requires-clause-coefficients
take_off-requires-clause-coefficients c =
    let small = (share_of c).small c.get-cut.result.now c.get-cut.ensures in
    subst (All (λ (k : ℕ). k < 2 ^ 24)) (sym (coefficients_are c)) small.coefficients

pub take_off-requires-clause-small : goal.take_off-requires-clause-small
take_off-requires-clause-small c = (small_so_far (prices_of c.args.network.now) c.args.d c.args.pool.now c.args.shares.now c.loop-share.share-index c.loop-share.reduced c.loop-share.paid c.requires.shares.few c.loop-share.invariant.weighed).0

pub loop-share-preserved : goal.loop-share-preserved
loop-share-preserved c =
    let cut = c.get-cut.result.now in
    let shares = c.args.shares.now in
    let i = c.loop-share.share-index in
    let share = share_at _ _ c.args.d shares i c.requires.shares c.loop-share-test.true in
    let small = share.small cut c.get-cut.ensures in
    let bound : c.from-in-loop-share.result ≡ cut.bound = c.from-in-loop-share.ensures ∙ ap (λ (v : CutOf). v.bound) c.cut.view_is in
    let part : c.from.result * c.from-in-loop-share.result ≡ (get_or shares i nothing).y * cut.bound = ap₂ (λ s t. s * t) c.from.ensures bound in
    let few : c.from.result * c.from-in-loop-share.result ≤ 2 ^ 68 = rw part (product_small (get_or shares i nothing).y cut.bound share.high small.bound) in
    let are : c.as_slice.result.now ≡ cut.coefficients = c.as_slice.ensures.value ∙ ap (λ (v : CutOf). v.coefficients) c.cut.view_is in
    record {
      weighed = weighed_next (prices_of c.args.network.now) c.args.d c.args.pool.now shares i cut c.loop-share.reduced c.take_off.new.reduced c.loop-share.paid (c.from.result * c.from-in-loop-share.result)
          c.loop-share-test.true c.get-cut.ensures c.loop-share.invariant.weighed part few
          (λ k. c.take_off.ensures.taken k ∙ ap (λ (l : List ℕ). at c.loop-share.reduced k -ℤ pos ((get_or shares i nothing).y * get_or l k 0)) are) c.take_off.ensures.near;
    }
