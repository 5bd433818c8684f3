-- The square root, rounded down. The rule is that of any textbook on whole numbers.
use Rattle.std.specs.Prelude.{ℕ, ◌+◌, ◌*◌, ◌<◌, ◌≤◌}

-- r is the square root of n, rounded down
pub record IsRoot (n r : ℕ) : Type 0 where
  pub reached : r * r ≤ n
  pub next_above : n < (r + 1) * (r + 1)
