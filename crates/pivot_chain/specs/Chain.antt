-- Chains of a matrix that code runs. This project's own.
use Rattle.std.specs.Prelude.{◌≡◌, ℕ, ◌+◌, ◌-◌, ◌^◌, ◌<◌, ◌≤◌, List, length, ℤ, pos, ◌≤ℤ◌, unsigned_abs, IsTrue}
use Rattle.whole_algebra.specs.Matrices.{at, IsTriangle}
use Rattle.whole_algebra.specs.Chains.{Step, chain_steps, stops, stop_place, stop_value}
use Rattle.whole_algebra.specs.Grid.{row_at}
use Rattle.lent_parts.specs.Triangle.{tri_row}
use Rattle.chain_step.specs.Step.{over_of, gap_count}
use Rattle.chain_step.specs.declared.side.Side.{Side}
use Rattle.pivot_chain.specs.declared.chain.Stop.{Stop}

-- the steps of the chain of a side
abbrev pub chain_of : Side → List (List ℤ) → List Step
chain_of side matrix = chain_steps (over_of side) (length matrix) matrix

-- a chain stops at this step, with this value
pub record StopsAt (steps : List Step) (stop : Stop) : Type 0 where
  pub stops_here : IsTrue (stops steps)
  pub place : stop.step ≡ stop_place steps
  pub number : stop.value ≡ stop_value steps

-- what the rows before place k counted: row i has, m places right of its diagonal, the number of the steps before it
-- whose quotient there isn't whole
abbrev pub HasGaps : List (List ℤ) → List (List ℤ) → ℕ → Type 0
HasGaps rows gaps k =
    (i m : ℕ) → i < k → 1 ≤ m → i + m < length rows → at (tri_row gaps i) m ≡ gap_count rows (length rows - i) m i

-- a triangle of at most 64 rows with entries below 2 ^ 109 in size and heads of at most 2 ^ 60 + 64
pub record IsSmall (matrix : List (List ℤ)) : Type 0 where
  pub shape : IsTriangle (length matrix) matrix
  pub few : length matrix ≤ 64
  pub each_size : (i k : ℕ) → unsigned_abs (at (row_at matrix i) k) < 2 ^ 109
  pub heads : (i : ℕ) → at (row_at matrix i) 0 ≤ℤ pos (2 ^ 60 + 64)
