-- Chains that are computed place by place, in the words of the private functions that compute them. This project's own.
use Rattle.std.specs.Prelude.{◌≡◌, ℕ, ◌<◌, ◌≤◌, List, length, ℤ, MatchOption}
use Rattle.whole_algebra.specs.Chains.{matrix_after}
use Rattle.whole_algebra.specs.Grid.{row_at}
use Rattle.lent_parts.specs.Triangle.{tri_row}
use Rattle.chain_step.specs.Step.{over_of, IsPivotRow}
use Rattle.chain_step.specs.declared.side.Side.{Side}
use Rattle.chain_step.specs.declared.side.Side.TheVariants.{Lower, Upper}
use Rattle.pivot_chain.specs.Chain.{chain_of, StopsAt}
use Rattle.pivot_chain.specs.Judging.{lower_of, upper_of}
use Rattle.pivot_chain.specs.declared.chain.Stop.{Stop}
use Rattle.pivot_chain.specs.declared.grids.Grids.{Grids}
use Rattle.factor_stack.specs.declared.chain.Chain.{Chain}
use Rattle.factor_stack.specs.declared.factors.Factors.{Factors}
use Rattle.factor_stack.specs.declared.run.GridRows.{GridRows}
use Rattle.factor_stack.specs.Stored.{HaveCounted}

-- the first `count` rows of a chain of a matrix
abbrev pub HasRows : Side → List (List ℤ) → ℕ → List (List ℤ) → Type 0
HasRows side matrix count rows = (j : ℕ) → j < count → tri_row rows j ≡ row_at (matrix_after (over_of side) j matrix) 0

-- a chain that hasn't stopped before place k
pub record GoesOnTo (side : Side) (matrix : List (List ℤ)) (k : ℕ) (rows : List (List ℤ)) : Type 0 where
  pub done : HasRows side matrix k rows
  pub pivots : (j : ℕ) → j < k → IsPivotRow (tri_row rows j)

-- a chain that has
pub record HasStopped (side : Side) (matrix : List (List ℤ)) (k : ℕ) (rows : List (List ℤ)) (stop : Stop) : Type 0 where
  pub before : stop.step ≤ k
  pub done : HasRows side matrix stop.step rows
  pub stops : StopsAt (chain_of side matrix) stop

-- a chain that is computed up to place k
pub record HasRun (side : Side) (matrix : List (List ℤ)) (k : ℕ) (chain : Chain) : Type 0 where
  pub places : length chain.rows ≡ length matrix
  pub state : MatchOption chain.stop (GoesOnTo side matrix k chain.rows) (HasStopped side matrix k chain.rows)

-- both chains, and the counts of their rows
pub record HaveRun (grids : Grids) (k : ℕ) (factors : Factors) : Type 0 where
  pub lower : HasRun Lower (lower_of grids) k factors.lower
  pub upper : HasRun Upper (upper_of grids) k factors.upper
  pub lower_gaps : length factors.lower_gaps ≡ length factors.lower.rows
  pub upper_gaps : length factors.upper_gaps ≡ length factors.upper.rows
  pub counted : HaveCounted k factors

-- the first rows stay
pub record KeepsFirst (count : ℕ) (before after : Factors) : Type 0 where
  pub lower : (j : ℕ) → j < count → tri_row after.lower.rows j ≡ tri_row before.lower.rows j
  pub upper : (j : ℕ) → j < count → tri_row after.upper.rows j ≡ tri_row before.upper.rows j
  pub lower_places : length after.lower.rows ≡ length before.lower.rows
  pub upper_places : length after.upper.rows ≡ length before.upper.rows
  pub lower_gaps : (j : ℕ) → j < count → tri_row after.lower_gaps j ≡ tri_row before.lower_gaps j
  pub upper_gaps : (j : ℕ) → j < count → tri_row after.upper_gaps j ≡ tri_row before.upper_gaps j
  pub lower_counts : length after.lower_gaps ≡ length before.lower_gaps
  pub upper_counts : length after.upper_gaps ≡ length before.upper_gaps

-- room for n rows
pub record IsRoom (n : ℕ) (room : GridRows) : Type 0 where
  pub lower : length room.lower ≡ n
  pub upper : length room.upper ≡ n
