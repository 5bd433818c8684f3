use Rattle.std.proofs.Common.{◌<◌, ◌^◌, ◌∙◌, List, ℕ, All, length, ap, arith, sym, subst}
use Rattle.cut_pool.specs.Cut.{CutOf}
use Rattle.idle_splits.proofs.ShareLemmas.{small_kept}
use Rattle.idle_splits.proofs.filling.filling_of.Goals as goal

pub weight_of-requires-clause-plan : goal.weight_of-requires-clause-plan
weight_of-requires-clause-plan c =
    let small = small_kept c.args.network.now c.args.cuts.now c.args.k c.get-cut.result.now c.limits-bounds.ensures.bounds c.requires.cuts c.get-cut.ensures in
    c.requires.plan ∙ sym small.each ∙ sym (ap length (c.as_slice.ensures.value ∙ ap (λ (v : CutOf). v.coefficients) c.cut.view_is))

pub weight_of-requires-clause-few : goal.weight_of-requires-clause-few
weight_of-requires-clause-few c =
    let small = small_kept c.args.network.now c.args.cuts.now c.args.k c.get-cut.result.now c.limits-bounds.ensures.bounds c.requires.cuts c.get-cut.ensures in
    let long = ap length (c.as_slice.ensures.value ∙ ap (λ (v : CutOf). v.coefficients) c.cut.view_is) in
    omega (arith, small.each, c.limits-bounds.ensures.bounds.candidates)

pub weight_of-requires-clause-small : goal.weight_of-requires-clause-small
weight_of-requires-clause-small c =
    let small = small_kept c.args.network.now c.args.cuts.now c.args.k c.get-cut.result.now c.limits-bounds.ensures.bounds c.requires.cuts c.get-cut.ensures in
    subst (λ (l : List ℕ). All (λ coefficient. coefficient < 2 ^ 24) l) (sym (c.as_slice.ensures.value ∙ ap (λ (v : CutOf). v.coefficients) c.cut.view_is)) small.coefficients
