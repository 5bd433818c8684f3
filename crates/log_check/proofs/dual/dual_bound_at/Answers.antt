use Rattle.std.proofs.Common.{◌∙◌, ℤ, List, map, ap}
use Rattle.whole_algebra.specs.Matrices.{at}
use Rattle.bound_log.specs.DualText.{weighed_text}
use Rattle.log_check.proofs.dual.dual_bound_at.Goals as goal

pub returns-clause-value : goal.returns-clause-value
returns-clause-value c =
    c.bound_of_sums.ensures (map (weighed_text c.args.network.now) c.args.shares.now) c.weigh-paid.ensures.paid
    (λ i. ap (λ (l : List ℤ). at l i) c.as_slice.ensures.value ∙ c.weigh-paid.ensures.taken i)
