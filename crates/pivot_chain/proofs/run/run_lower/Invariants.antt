use Rattle.std.proofs.Common.{◌≡◌, ℕ, ◌<◌, length}
use Rattle.whole_algebra.specs.Grid.{row_at}
use Rattle.lent_parts.specs.Triangle.{IsTri, tri_row}
use Rattle.chain_step.specs.declared.side.Side.TheVariants.{Lower}
use Rattle.pivot_chain.specs.Chain.{HasGaps}
use Rattle.pivot_chain.specs.Judging.{lower_of, upper_of}
use Rattle.pivot_chain.proofs.ChainRun.{IsSoFar}
use Rattle.pivot_chain.proofs.run.run_lower.Given as goal

abbrev pub invariant-loop-k : goal.invariant-loop-k
invariant-loop-k l = record {
  so_far : IsSoFar Lower (lower_of l.grids) l.k l.rows;
  lower_size : length l.lower ≡ length l.initial.lower;
  upper : (j : ℕ) → j < l.k → tri_row l.upper j ≡ row_at (upper_of l.grids) j;
  upper_size : length l.upper ≡ length l.initial.upper;
  shape : IsTri (length l.rows) l.rows;
  counted : HasGaps l.rows l.gaps l.k;
  gaps_size : length l.gaps ≡ length l.initial.gaps;
}
