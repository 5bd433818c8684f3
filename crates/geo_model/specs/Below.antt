-- Sums over the numbers below n. This project's own words for the usual ones.
use Rattle.std.specs.Prelude.{ℕ, zero, suc, ◌+◌, ℤ, pos, ◌+ℤ◌, Bool, false, ◌||◌}

-- the sum of f at the numbers below n
unfoldable pub sum_below : (ℕ → ℕ) → ℕ → ℕ
sum_below f zero = 0
sum_below f (suc n) = sum_below f n + f n

-- the same, of whole numbers
unfoldable pub int_sum_below : (ℕ → ℤ) → ℕ → ℤ
int_sum_below f zero = pos 0
int_sum_below f (suc n) = int_sum_below f n +ℤ f n

-- whether a test holds of some number below n
unfoldable pub any_below : (ℕ → Bool) → ℕ → Bool
any_below test zero = false
any_below test (suc n) = any_below test n || test n
