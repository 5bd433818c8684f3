use Rattle.std.proofs.Common.{◌≡◌, ◌∙◌, ◌*◌, ◌<◌, pos, length, get_or, arith, ap, sym}
use Rattle.whole_algebra.specs.Matrices.{at}
use Rattle.geo_model.specs.Candidate.{CandidateOf}
use Rattle.geo_model.specs.Prices.{prices_of}
use Rattle.reduced_sums.proofs.ReducedLemmas.{written_more, priced, all_priced, price_size}
use Rattle.reduced_sums.proofs.reduced.write_prices.Goals as goal

pub loop-i-preserved : goal.loop-i-preserved
loop-i-preserved c =
    let network = c.args.network.now in
    let i = c.loop-i.i in
    let candidate = c.index-candidates-i.result in
    let are = c.candidates-candidates.ensures.value in
    let here : candidate ≡ get_or network.candidates i candidate = rw (sym are) c.index-candidates-i.is in
    let inside : i < length network.candidates = omega (arith, ap length are, c.loop-i-test.true) in
    let price : c.from-in-loop-i.result ≡ candidate.price = c.from-in-loop-i.ensures ∙ ap (λ (v : CandidateOf). v.price) c.candidate.view_is in
    let one = priced network c.args.divisor i c.from.result c.from-in-loop-i.result candidate c.candidates-candidates.ensures.bounds c.requires.divisor inside here c.from.ensures price in
    written_more (λ k. pos (c.args.divisor * get_or (prices_of network).candidates k 0)) c.loop-i.reduced i _ (omega (arith, inside, c.requires.places, c.loop-i.auto.reduced)) c.loop-i.invariant one.read

pub returns-clause-prices : goal.returns-clause-prices
returns-clause-prices c =
    let network = c.args.network.now in
    let all = all_priced network c.args.divisor c.loop-i.reduced (c.loop-i.auto.reduced ∙ c.requires.places)
    (λ k less. c.loop-i.invariant k (omega (arith, less, c.loop-i-test.false, ap length c.candidates-candidates.ensures.value))) in
    λ k. all k ∙ ap pos (omega arith)

pub returns-clause-small : goal.returns-clause-small
returns-clause-small c =
    let network = c.args.network.now in
    let all = all_priced network c.args.divisor c.loop-i.reduced (c.loop-i.auto.reduced ∙ c.requires.places)
    (λ k less. c.loop-i.invariant k (omega (arith, less, c.loop-i-test.false, ap length c.candidates-candidates.ensures.value))) in
    λ k. price_size network c.args.divisor k (at c.loop-i.reduced k) c.candidates-candidates.ensures.bounds c.requires.divisor (all k)
