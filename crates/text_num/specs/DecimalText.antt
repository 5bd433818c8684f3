-- How a number of units of the last place is written: `-` before a negative one, the whole part without a
-- leading zero, and, where there are places, a point and exactly as many digits. The format is this project's own.
use Rattle.std.specs.Prelude.{ℕ, zero, suc, ◌+◌, ◌/◌, ◌%◌, ◌^◌, List, [], ◌∷◌, ◌++◌, ℤ, pos, negsuc, unsigned_abs}
use Rattle.std.specs.Fmt.{decimal}
use Rattle.text_num.specs.Bytes.{minus_byte, point_byte, zero_byte}

-- the last k digits of n, the highest first
unfoldable pub last_digits : ℕ → ℕ → List ℕ
last_digits zero n = []
last_digits (suc k) n = (zero_byte + n / 10 ^ k % 10) ∷ last_digits k n

-- `-` before a negative number
abbrev pub minus_text : ℤ → List ℕ
minus_text (pos n) = []
minus_text (negsuc n) = minus_byte ∷ []

-- the point and the digits after it
abbrev pub point_text : ℕ → ℕ → List ℕ
point_text zero n = []
point_text (suc k) n = point_byte ∷ last_digits (suc k) n

unfoldable pub decimal_text : ℤ → ℕ → List ℕ
decimal_text value places = minus_text value ++ (decimal (unsigned_abs value / 10 ^ places) ++ point_text places (unsigned_abs value))
