-- The reduced prices of candidates, and the candidates of a station. This project's own; it serves
-- the code that forms dual bounds, and no clause of a bound cites it.
use Rattle.std.specs.Prelude.{◌≡◌, ℕ, ◌^◌, ◌≤◌, ℤ, Bool, List, length, Option, Some, None, get_or, unsigned_abs}
use Rattle.whole_algebra.specs.Matrices.{at}
use Rattle.geo_model.specs.Dual.{has_none}
use Rattle.geo_model.specs.Prices.{is_station}

-- the candidates without a station, or of one station
abbrev pub is_in_group : Option ℕ → Option ℕ → Bool
is_in_group None station = has_none station
is_in_group (Some k) station = is_station k station

-- .. by their numbers
abbrev pub in_group : List (Option ℕ) → Option ℕ → ℕ → Bool
in_group stations group i = is_in_group group (get_or stations i None)

-- a list of numbers, one for each of so many candidates, that stay small
pub record AreReduced (count : ℕ) (reduced : List ℤ) : Type 0 where
  pub long : length reduced ≡ count
  pub small : (i : ℕ) → unsigned_abs (at reduced i) ≤ 2 ^ 75
