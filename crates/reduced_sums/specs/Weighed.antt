-- What shares leave of the prices and what they pay, as it is formed share by share. This project's own; it serves the code that
-- forms dual bounds, and no clause of a bound cites it.
use Rattle.std.specs.Prelude.{◌≡◌, ℕ, ◌+◌, ◌*◌, ◌^◌, ◌≤◌, ℤ, List, length, sum_by, unsigned_abs}
use Rattle.whole_algebra.specs.Matrices.{at}
use Rattle.geo_model.specs.Dual.{WeighedCover, reduced_price}
use Rattle.geo_model.specs.Prices.{PricesOf}

-- the reduced prices that shares leave, and the sum of their multipliers times the bounds of their cuts, with their sizes
pub record AreWeighed (prices : PricesOf) (divisor : ℕ) (shares : List WeighedCover) (reduced : List ℤ) (paid : ℕ) : Type 0 where
  pub taken : (i : ℕ) → at reduced i ≡ reduced_price prices divisor shares i
  pub sum : paid ≡ sum_by (λ share. share.multiplier * share.cover.bound) shares
  pub small : (i : ℕ) → unsigned_abs (at reduced i) ≤ 2 ^ 74 + length shares * 2 ^ 68
  pub paid_small : paid ≤ length shares * 2 ^ 68
