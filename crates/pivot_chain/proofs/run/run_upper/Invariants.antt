use Rattle.std.proofs.Common.{◌≡◌, ℕ, ◌<◌, ◌≤◌, length}
use Rattle.whole_algebra.specs.Grid.{row_at}
use Rattle.lent_parts.specs.Triangle.{IsTri, tri_row}
use Rattle.chain_step.specs.declared.side.Side.TheVariants.{Upper}
use Rattle.pivot_chain.specs.Chain.{HasGaps}
use Rattle.pivot_chain.specs.Judging.{upper_of}
use Rattle.pivot_chain.proofs.ChainRun.{IsSoFar}
use Rattle.pivot_chain.proofs.run.run_upper.Given as goal

abbrev pub invariant-loop-k : goal.invariant-loop-k
invariant-loop-k l = record {
  so_far : IsSoFar Upper (upper_of l.grids) l.k l.rows;
  upper_size : length l.upper ≡ length l.initial.upper;
  ahead : (j : ℕ) → l.k ≤ j → j < l.written → tri_row l.upper j ≡ row_at (upper_of l.grids) j;
  spare_size : length l.spare ≡ length l.initial.spare;
  shape : IsTri (length l.rows) l.rows;
  counted : HasGaps l.rows l.gaps l.k;
  gaps_size : length l.gaps ≡ length l.initial.gaps;
}
