use Rattle.std.proofs.Common.{◌∙◌, ℤ, List, map, ap, arith}
use Rattle.std.proofs.lemmas.List.{length-map}
use Rattle.whole_algebra.specs.Matrices.{at}
use Rattle.bound_log.specs.DualText.{weighed_text}
use Rattle.bound_log.specs.Meanings.{share_used}
use Rattle.log_check.proofs.WeighLemmas.{small_uses}
use Rattle.log_check.proofs.dual_uses.dual_bound_of_uses.Goals as goal

pub weigh_uses-paid-requires-clause-few : goal.weigh_uses-paid-requires-clause-few
weigh_uses-paid-requires-clause-few c = omega (arith, c.requires.dual.few, length-map c.args.uses.now (share_used c.args.cuts.now))

pub weigh_uses-paid-requires-clause-each : goal.weigh_uses-paid-requires-clause-each
weigh_uses-paid-requires-clause-each c = small_uses c.args.network.now c.args.node.now c.args.cuts.now c.args.uses.now c.requires.named c.requires.dual.each

pub returns-clause-value : goal.returns-clause-value
returns-clause-value c =
    c.bound_of_sums.ensures (map (weighed_text c.args.network.now) (map (share_used c.args.cuts.now) c.args.uses.now)) c.weigh_uses-paid.ensures.paid
    (λ i. ap (λ (l : List ℤ). at l i) c.as_slice.ensures.value ∙ c.weigh_uses-paid.ensures.taken i)
