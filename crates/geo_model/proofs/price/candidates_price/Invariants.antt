use Rattle.std.proofs.Common.{◌≡◌, ◌*◌, ◌≤◌}
use Rattle.geo_model.specs.Below.{sum_below}
use Rattle.geo_model.specs.Prices.{prices_of}
use Rattle.geo_model.proofs.BelowLemmas.{chosen_at}
use Rattle.geo_model.proofs.price.candidates_price.Given as goal

abbrev pub invariant-loop-i : goal.invariant-loop-i
invariant-loop-i l = record {
  value : l.sum ≡ sum_below (chosen_at (prices_of l.network).candidates l.plan) l.i;
  size : l.sum ≤ l.i * 1000000000;
}
