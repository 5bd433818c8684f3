use Rattle.std.proofs.lemmas.Bool.{false≢true}
use Rattle.std.proofs.Common.{◌≡◌, ◌∙◌, ◌<◌, ◌≤◌, length, get_or, ap, arith, sym}
use Rattle.geo_model.specs.Below.{sum_below}
use Rattle.geo_model.specs.Candidate.{CandidateOf}
use Rattle.geo_model.specs.Prices.{prices_of}
use Rattle.geo_model.proofs.BelowLemmas.{chosen_at, sum_below-none, chosen_sum-below}
use Rattle.geo_model.proofs.PriceLemmas.{candidates-more, candidate_price-few}
use Rattle.geo_model.proofs.price.candidates_price.Goals as goal
use Rattle.geo_model.proofs.price.candidates_price.Goals.{then-has, else-has}

pub loop-i-init : goal.loop-i-init
loop-i-init c = record { value = sym (sum_below-none (chosen_at (prices_of c.args.network.now).candidates c.args.plan.now)); size = omega arith }

pub loop-i-preserved : goal.loop-i-preserved
loop-i-preserved c =
    let network = c.args.network.now in
    let are = c.candidates-candidates.ensures.value in
    let inside : c.loop-i.i < length network.candidates = rw (sym are) c.loop-i-test.true in
    let here : c.index-candidates-i.result ≡ get_or network.candidates c.loop-i.i c.index-candidates-i.result = rw (sym are) c.index-candidates-i.is in
    let priced : c.candidate.inside.price ≡ c.index-candidates-i.result.price = ap (λ (v : CandidateOf). v.price) c.candidate.view_is in
    let few : c.index-candidates-i.result.price ≤ 1000000000 = candidate_price-few network c.loop-i.i c.index-candidates-i.result c.candidates-candidates.ensures.bounds inside here in
    let more = candidates-more network c.args.plan.now c.loop-i.i c.index-candidates-i.result c.has.result c.loop-i.sum c.if-has.sum inside here c.has.ensures c.loop-i.invariant.value in
    elim c.if-has.branch [
      | then-has w ↦ record {
        value = more (λ _. omega arith) (λ left. absurd (false≢true (sym left ∙ w.if-has.true)));
        size = omega arith;
      }
      | else-has w ↦ record {
        value = more (λ has. absurd (false≢true (sym w.if-has.false ∙ has))) (λ _. omega arith);
        size = omega arith;
      }
    ]

pub returns-clause-value : goal.returns-clause-value
returns-clause-value c =
    let whole : c.loop-i.i ≡ length c.args.plan.now = omega (arith, ap length c.candidates-candidates.ensures.value) in
    c.loop-i.invariant.value
    ∙ ap (sum_below (chosen_at (prices_of c.args.network.now).candidates c.args.plan.now)) whole
    ∙ sym (chosen_sum-below (prices_of c.args.network.now).candidates c.args.plan.now)
