use Rattle.std.proofs.Common.{◌∙◌}
use Rattle.whole_algebra.specs.Matrices.{at}
use Rattle.reduced_sums.proofs.DualSizes.{four_parts}
use Rattle.reduced_sums.proofs.DualTerms.{bound_is, parts_sum}
use Rattle.reduced_sums.proofs.bound.bound_of_sums.Goals as goal

pub returns : goal.returns
returns c = λ shares paid_is reduced_is.
    let network = c.args.network.now in
    let node = c.args.node.now in
    let inner = c.inner_sum-inner.result in
    let free = c.open_sum-free.result in
    let stations = c.stations_sum-stations.result in
    let paid = c.args.paid in
    let sum = parts_sum network c.args.divisor shares (at c.args.reduced.now) node inner free stations paid reduced_is
    c.inner_sum-inner.ensures.value c.open_sum-free.ensures.value c.stations_sum-stations.ensures.value paid_is in
    let four = four_parts inner free stations paid c.inner_sum-inner.ensures.size c.open_sum-free.ensures.size c.stations_sum-stations.ensures.size c.requires.paid in
    c.rounded_up.ensures ∙ bound_is network c.args.divisor shares node _ (four.is ∙ sum)
