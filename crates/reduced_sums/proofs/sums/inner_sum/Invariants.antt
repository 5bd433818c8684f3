use Rattle.std.proofs.Common.{◌≡◌, ◌*◌, ◌^◌, ◌≤◌}
use Rattle.std.specs.Prelude.{unsigned_abs}
use Rattle.geo_model.specs.Below.{int_sum_below}
use Rattle.geo_model.specs.Dual.{inner_part}
use Rattle.whole_algebra.specs.Matrices.{at}
use Rattle.reduced_sums.proofs.sums.inner_sum.Given as goal

abbrev pub invariant-loop-i : goal.invariant-loop-i
invariant-loop-i l = record {
  value : l.sum ≡ int_sum_below (inner_part (at l.reduced) l.node) l.i;
  size : unsigned_abs l.sum ≤ l.i * 2 ^ 75;
}
