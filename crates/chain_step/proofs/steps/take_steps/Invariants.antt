use Rattle.std.proofs.Common.{◌≡◌, ℕ, ◌+◌, ◌-◌, ◌*◌, ◌<◌, ◌≤◌, ◌^◌, ℤ, pos, ◌≤ℤ◌, List, length, unsigned_abs}
use Rattle.whole_algebra.specs.Matrices.{at, IsTriangle}
use Rattle.whole_algebra.specs.Chains.{matrix_after}
use Rattle.whole_algebra.specs.Grid.{row_at}
use Rattle.lent_parts.specs.Triangle.{tri_row}
use Rattle.chain_step.specs.Step.{over_of, with_left, left_slack, gap_count}
use Rattle.chain_step.proofs.steps.take_steps.Given as goal

abbrev pub invariant-loop-t : goal.invariant-loop-t
invariant-loop-t l = record {
  size : (m : ℕ) → unsigned_abs (at l.row m) ≤ 2 ^ 109 + l.t * 2 ^ 62;
  head : at l.row 0 ≤ℤ pos (2 ^ 60 + 64 + l.t * 64);
  counts : (m : ℕ) → unsigned_abs (at l.gaps m) ≤ l.t;
  gaps : (m : ℕ) → 1 ≤ m → m < length l.initial.row → at l.gaps m ≡ gap_count l.before (length l.initial.row) m l.t;
  exact : (n k : ℕ) (matrix : List (List ℤ)) → IsTriangle n matrix → k + length l.initial.row ≡ n → length l.before ≤ k
      → ((s : ℕ) → s < length l.before → row_at (matrix_after (over_of l.side) s matrix) 0 ≡ tri_row l.before s)
      → row_at matrix k ≡ l.initial.row
      → with_left l.side (left_slack l.before (length l.initial.row) l.t) l.row ≡ row_at (matrix_after (over_of l.side) l.t matrix) (k - l.t);
}
