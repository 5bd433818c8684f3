-- Whole numbers of a few digits: the test on a text, and what it says.
use Rattle.std.proofs.Common.{◌≡◌, ◌∙◌, ℕ, ◌^◌, ◌<◌, ◌≤◌, true, false, List, length, arith, refl, Some, None}
use Rattle.std.proofs.lemmas.Bool.{and_parts, leb-true}
use Rattle.std.proofs.lemmas.Bool.Decides.{nat_tests}
use Rattle.std.proofs.Math.Nat.{pow-le-pow_right}
use Rattle.std.specs.Char.{is_ascii_digit}
use Rattle.std.specs.List.{list_all}
use Rattle.std.specs.Str.Parse.{digits_value}
use Rattle.text_num.specs.Decimal.{IsNumeralUpTo}
use Rattle.text_num.specs.Digits.{digits_of, is_digits}
use Rattle.text_num.proofs.Digits.{AllDigits-from_test, test-from_AllDigits}

-- an empty text, one that is too long, and one of a right length
pub is_digits-short : (most : ℕ) (text : List ℕ) → length text ≡ 0 → is_digits most text ≡ false
unfolding is_digits
is_digits-short most text short = grind (arith, nat_tests)

pub is_digits-long : (most : ℕ) (text : List ℕ) → most < length text → is_digits most text ≡ false
unfolding is_digits
is_digits-long most text long = grind (arith, nat_tests)

pub is_digits-within : (most : ℕ) (text : List ℕ) → 1 ≤ length text → length text ≤ most → is_digits most text ≡ list_all is_ascii_digit text
unfolding is_digits
is_digits-within most text low high = grind (arith, nat_tests)

pub ruleset digit_tests = (is_digits-short, is_digits-long, is_digits-within)

-- what the test says
pub numeral-from_test : (most : ℕ) (text : List ℕ) → is_digits most text ≡ true → IsNumeralUpTo most text
unfolding is_digits
numeral-from_test most text is =
    let (length, digits) = and_parts _ _ is in
    let (low, high) = and_parts _ _ length in
    record { only_digits = AllDigits-from_test text digits; some = leb-true 1 _ low; few = leb-true _ most high }

pub test-from_numeral : (most : ℕ) (text : List ℕ) → IsNumeralUpTo most text → is_digits most text ≡ true
test-from_numeral most text is = is_digits-within most text is.some is.few ∙ test-from_AllDigits text is.only_digits

-- the number that a text writes, and a text that writes none
pub digits_of-some : (most value : ℕ) (text : List ℕ) → is_digits most text ≡ true → value ≡ digits_value 10 text → Some value ≡ digits_of most text
unfolding digits_of
digits_of-some most value text is e = rw (is, e) refl

pub digits_of-none : (most : ℕ) (text : List ℕ) → is_digits most text ≡ false → None ≡ digits_of most text
unfolding digits_of
digits_of-none most text fails = rw fails refl

-- a number below one power of ten is below a larger one
pub below-power : (value k most : ℕ) → value < 10 ^ k → k ≤ most → value < 10 ^ most
below-power value k most small few =
    let power : 10 ^ k ≤ 10 ^ most = pow-le-pow_right {n = 10} (omega arith) few in
    omega arith
