use Rattle.std.proofs.Common.{◌≡◌, ◌*◌, ◌^◌, ◌≤◌}
use Rattle.geo_model.specs.Below.{sum_below}
use Rattle.geo_model.proofs.BelowLemmas.{chosen_at}
use Rattle.idle_splits.proofs.filling.weight_of.Given as goal

abbrev pub invariant-loop-i : goal.invariant-loop-i
invariant-loop-i l = record {
  value : l.sum ≡ sum_below (chosen_at l.coefficients l.plan) l.i;
  size : l.sum ≤ l.i * 2 ^ 24;
}
