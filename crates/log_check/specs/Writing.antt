-- How far the displacement of a line has been written. This project's own; it serves the proof of
-- the replay, and no public clause cites it.
use Rattle.std.specs.Prelude.{◌≡◌, ℕ, ◌<◌, ◌≤◌, true, List, length, ℤ, pos}
use Rattle.whole_algebra.specs.Matrices.{at}
use Rattle.bound_log.specs.CutText.{displaced_by}
use Rattle.bound_log.specs.Rules.{are_moves}

-- of the pairs of a displacement of so many unknowns these are left, which begin at an unknown;
-- those before it are written
pub record Writes (unknowns : ℕ) (pairs left : List (ℕ × ℤ)) (least : ℕ) (x : List ℤ) : Type 0 where
  pub long : length x ≡ unknowns
  pub few : length pairs ≤ unknowns
  pub tested : are_moves unknowns 0 pairs ≡ are_moves unknowns least left
  pub behind : are_moves unknowns least left ≡ true → (i : ℕ) → i < least → displaced_by pairs i ≡ at x i
  pub ahead : (i : ℕ) → least ≤ i → displaced_by pairs i ≡ displaced_by left i
  pub unmoved : (i : ℕ) → least ≤ i → at x i ≡ pos 0
