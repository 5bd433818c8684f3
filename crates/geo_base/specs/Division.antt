-- Whole-number division: rounded down, rounded up, and to the nearest number.
-- The rounding rules are those of any textbook on whole numbers; the words are this project's own.
use Rattle.std.specs.Prelude.{◌≡◌, ℕ, ◌≤◌, ℤ, pos, negsuc, neg_ℤ, ◌+ℤ◌, ◌-ℤ◌, ◌*ℤ◌, ◌≤ℤ◌, ◌<ℤ◌, unsigned_abs}
use Rattle.std.specs.Int.{int_div_euclid}

-- q is n / d rounded down, for d above 0
pub record IsFloor (n d q : ℤ) : Type 0 where
  pub reached : (q *ℤ d) ≤ℤ n
  pub next_above : n <ℤ ((q +ℤ pos 1) *ℤ d)

-- q is n / d rounded up, for d above 0
pub record IsCeiling (n d q : ℤ) : Type 0 where
  pub reached : n ≤ℤ (q *ℤ d)
  pub last_below : ((q -ℤ pos 1) *ℤ d) <ℤ n

-- how far q * d is from n: d times the distance of q from n / d
abbrev pub distance : ℤ → ℤ → ℤ → ℕ
distance n d q = unsigned_abs (n -ℤ q *ℤ d)

-- q is the whole number nearest to n / d, for d above 0, and of two that are as near the one that is further from 0
pub record IsNearest (n d q : ℤ) : Type 0 where
  pub closest : (z : ℤ) → distance n d q ≤ distance n d z
  pub tie_away : (z : ℤ) → distance n d q ≡ distance n d z → unsigned_abs z ≤ unsigned_abs q

-- n / d rounded down, for d above 0
unfoldable pub floor_of : ℤ → ℤ → ℤ
floor_of n d = int_div_euclid n d

-- n / d rounded up, for d above 0
unfoldable pub ceil_of : ℤ → ℤ → ℤ
ceil_of n d = neg_ℤ (floor_of (neg_ℤ n) d)

-- the whole number nearest to n / d, for d above 0; a tie goes away from zero
unfoldable pub nearest_of : ℤ → ℤ → ℤ
nearest_of (pos a) d = floor_of (pos 2 *ℤ pos a +ℤ d) (pos 2 *ℤ d)
nearest_of (negsuc a) d = ceil_of (pos 2 *ℤ negsuc a -ℤ d) (pos 2 *ℤ d)
