-- The texts of the numbers in a line of a log. This project's own.
use Rattle.std.specs.Prelude.{◌≡◌, ℕ, ◌<◌, ◌≤◌, ◌^◌, ◌⊎◌, List, [], ◌∷◌, length, ℤ, unsigned_abs}
use Rattle.std.specs.Fmt.{decimal, signed_decimal}
use Rattle.std.specs.Int.{IsInRange}
use Rattle.std.specs.List.{AllByRecursion}
use Rattle.std.specs.Str.Parse.{AllDigits}

-- more than each number of 19 digits
abbrev pub number_bound : ℕ
number_bound = 10 ^ 19

-- the text is that of a number of at most 19 digits
pub record IsNumberText (text : List ℕ) (number : ℕ) : Type 0 where
  pub spelled : text ≡ decimal number
  pub size : number < number_bound

-- `0`, or a digit from 1 to 9 followed by at most 18 digits
abbrev pub IsShortNumeral : List ℕ → Type 0
IsShortNumeral [] = ⊥
IsShortNumeral (c ∷ rest) = ((c ≡ 48) × (rest ≡ [])) ⊎ (IsInRange 49 57 c × AllDigits 10 rest × (length rest ≤ 18))

-- the text is that of a number of at most 19 digits, with `-` before it where it is negative
pub record IsSigned (text : List ℕ) (value : ℤ) : Type 0 where
  pub spelled : text ≡ signed_decimal value
  pub size : unsigned_abs value < number_bound

-- each of these numbers has at most 19 digits
abbrev pub AreShort : List ℕ → Type 0
AreShort numbers = AllByRecursion (λ number. number < number_bound) numbers
