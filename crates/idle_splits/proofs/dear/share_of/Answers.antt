use Rattle.std.proofs.Common.{◌≡◌, ◌<◌, ◌≤◌, ◌^◌, List, ℕ, get_or, length, ap, ◌∙◌, sym, subst, arith}
use Rattle.cut_pool.specs.Cut.{CutOf}
use Rattle.geo_model.specs.Candidate.{CandidateOf}
use Rattle.geo_model.proofs.PriceLemmas.{candidate_price-few}
use Rattle.reduced_sums.proofs.ReducedLemmas.{price_at}
use Rattle.idle_splits.proofs.ShareLemmas.{small_kept}
use Rattle.idle_splits.proofs.dear.share_of.Goals as goal

pub bounds-coefficients-candidate : goal.bounds-coefficients-candidate
bounds-coefficients-candidate c =
    let small = small_kept c.args.network.now c.args.cuts.now c.args.k c.get-cut.result.now c.candidates-candidates.ensures.bounds c.requires.cuts c.get-cut.ensures in
    let same = ap length (c.as_slice-coefficients.ensures.value ∙ ap (λ (v : CutOf). v.coefficients) c.cut.view_is) in
    let long = small.each in
    omega (arith, c.requires.candidate)

pub returns-clause-share : goal.returns-clause-share
returns-clause-share c =
    let network = c.args.network.now in
    let j = c.args.candidate in
    let cut = c.get-cut.result.now in
    let small = small_kept network c.args.cuts.now c.args.k cut c.candidates-candidates.ensures.bounds c.requires.cuts c.get-cut.ensures in
    let same : c.as_slice-coefficients.result.now ≡ cut.coefficients = c.as_slice-coefficients.ensures.value ∙ ap (λ (v : CutOf). v.coefficients) c.cut.view_is in
    let weight : c.from.result ≡ get_or cut.coefficients j 0 = c.from.ensures ∙ ap (λ (cs : List ℕ). get_or cs j 0) same in
    let inside : j < length cut.coefficients = let long = small.each in omega (arith, c.requires.candidate) in
    let are = c.candidates-candidates.ensures.value in
    let candidate = c.index-candidates-candidate.result in
    let here : candidate ≡ get_or network.candidates j candidate = rw (sym are) c.index-candidates-candidate.is in
    let few : candidate.price ≤ 1000000000 = candidate_price-few network j candidate c.candidates-candidates.ensures.bounds c.requires.candidate here in
    let priced : c.priced.inside.price ≡ candidate.price = ap (λ (v : CandidateOf). v.price) c.priced.view_is in
    record {
      cut = cut;
      kept = c.get-cut.ensures;
      limit = ap (λ (v : CutOf). v.limit) c.cut.view_is;
      unknown = ap (λ (us : List ℕ). get_or us c.args.k 0) c.as_slice-unknowns.ensures.value;
      divisor = weight;
      multiplier = priced ∙ sym (price_at network j candidate c.requires.candidate here);
      small_divisor = subst (λ (n : ℕ). n < 2 ^ 24) (sym weight) (small.coefficients j 0 inside);
      small_multiplier = rw priced few;
    }
