use Rattle.std.proofs.Common.{◌≡◌, ◌-◌, ◌*◌, ◌≤◌, unsigned_abs}
use Rattle.whole_algebra.specs.Matrices.{at}
use Rattle.lent_parts.specs.Triangle.{tri_row}
use Rattle.chain_step.specs.Step.{sum_from}
use Rattle.pivot_chain.proofs.gaps.counted_slack.Given as goal

abbrev pub invariant-loop-j : goal.invariant-loop-j
invariant-loop-j l = record {
  sum : l.slack ≡ sum_from (λ j. at (tri_row l.gaps j) (l.fn.k - j)) 0 l.j;
  size : unsigned_abs l.slack ≤ 64 * l.j;
}
