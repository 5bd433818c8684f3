-- A decimal with p places: an optional sign, 1 to 12 digits, and optionally a point and 1 to 20 digits, of
-- which those past the first p are 0. Its value is the number times 10 ^ p. The format is this project's own.
use Rattle.std.specs.Prelude.{◌≡◌, ℕ, ◌+◌, ◌-◌, ◌*◌, ◌^◌, ◌≤◌, ◌==◌, nat_le, Bool, ◌&&◌, ⊤, List, [], ◌∷◌, ◌++◌, length, take, drop, Option, None, Some, ℤ, pos, neg_ℤ, if◌then◌else◌}
use Rattle.std.specs.Char.{is_ascii_digit}
use Rattle.std.specs.List.{prefix_len, list_all, AllByRecursion}
use Rattle.std.specs.Option.{option_map}
use Rattle.std.specs.Str.Parse.{digits_value, AllDigits}
use Rattle.text_num.specs.Bytes.{minus_byte, plus_byte, point_byte, zero_byte}

-- ---- the grammar

-- what may stand before the digits
pub data Sign : Type 0 where
  unsigned : Sign
  plus : Sign
  minus : Sign

abbrev pub sign_text : Sign → List ℕ
sign_text unsigned = []
sign_text plus = plus_byte ∷ []
sign_text minus = minus_byte ∷ []

abbrev pub with_sign : Sign → ℕ → ℤ
with_sign unsigned n = pos n
with_sign plus n = pos n
with_sign minus n = neg_ℤ (pos n)

-- at least one digit and at most `most`, and nothing else
pub record IsNumeralUpTo (most : ℕ) (digits : List ℕ) : Type 0 where
  pub only_digits : AllDigits 10 digits
  pub some : 1 ≤ length digits
  pub few : length digits ≤ most

-- what may follow the digits: nothing, or a point and digits
abbrev pub fraction_text : Option (List ℕ) → List ℕ
fraction_text None = []
fraction_text (Some digits) = point_byte ∷ digits

pub record IsFractionDigits (places : ℕ) (digits : List ℕ) : Type 0 where
  pub numeral : IsNumeralUpTo 20 digits
  pub zeros : AllByRecursion (λ c. c ≡ zero_byte) (drop places digits)

abbrev pub IsFraction : ℕ → Option (List ℕ) → Type 0
IsFraction places None = ⊤
IsFraction places (Some digits) = IsFractionDigits places digits

-- the digits after the point as a number of units of the last place
abbrev pub fraction_value : ℕ → Option (List ℕ) → ℕ
fraction_value places None = 0
fraction_value places (Some digits) = digits_value 10 (take places digits) * 10 ^ (places - length digits)

-- the text is a decimal with these places that stands for value
pub record IsDecimal (places : ℕ) (text : List ℕ) (value : ℤ) : Type 0 where
  pub sign : Sign
  pub whole : List ℕ
  pub fraction : Option (List ℕ)
  pub spelled : text ≡ sign_text sign ++ (whole ++ fraction_text fraction)
  pub whole_form : IsNumeralUpTo 12 whole
  pub fraction_form : IsFraction places fraction
  pub worth : value ≡ with_sign sign (digits_value 10 whole * 10 ^ places + fraction_value places fraction)

-- ---- the value as a function of the text

-- 1 to 20 digits, of which those past the first `places` are `0`
abbrev pub is_fraction : ℕ → List ℕ → Bool
is_fraction places digits = nat_le 1 (length digits) && nat_le (length digits) 20 && list_all is_ascii_digit digits && list_all (λ c. c == zero_byte) (drop places digits)

-- what follows the digits of the whole part, in units of the last place
unfoldable pub fraction_of : ℕ → List ℕ → Option ℕ
fraction_of places [] = Some 0
fraction_of places (c ∷ digits) = if c == point_byte && is_fraction places digits then Some (fraction_value places (Some digits)) else None

-- how many digits the text begins with
abbrev pub digit_count : List ℕ → ℕ
digit_count text = prefix_len is_ascii_digit text

-- the value of a text without a sign
unfoldable pub unsigned_of : ℕ → List ℕ → Option ℕ
unsigned_of places text = if nat_le 1 (digit_count text) && nat_le (digit_count text) 12
    then option_map (λ n. digits_value 10 (take (digit_count text) text) * 10 ^ places + n) (fraction_of places (drop (digit_count text) text))
    else None

-- the value of a text, and None outside the grammar
unfoldable pub decimal_of : ℕ → List ℕ → Option ℤ
decimal_of places [] = None
decimal_of places (c ∷ text) = if c == minus_byte then option_map (λ n. neg_ℤ (pos n)) (unsigned_of places text)
    else (if c == plus_byte then option_map pos (unsigned_of places text) else option_map pos (unsigned_of places (c ∷ text)))
