-- The texts of numbers of at most 19 digits.
use Rattle.std.proofs.Common.{◌≡◌, ℕ, zero, suc, ◌+◌, ◌^◌, ◌<◌, ◌≤◌, List, [], ◌∷◌, length, get_or, All, arith, refl, ap, sym, ◌∙◌, subst, inl, inr, eq-or-lt_of_le, Option, Some, None, IfSome, IfNone}
use Rattle.std.specs.Char.{digit_value}
use Rattle.std.specs.Fmt.{decimal}
use Rattle.std.specs.Int.{IsInRange}
use Rattle.std.specs.List.{AllByRecursion}
use Rattle.std.specs.Str.Parse.{digits_value, AllDigits}
use Rattle.std.proofs.lemmas.Fmt.{decimal_is_IsNumeral, decimal_digit, decimal_nonempty, first_decimal, length-decimal-le, decimal-digits_value}
use Rattle.std.proofs.lemmas.List.Elements.{All-from_recursion}
use Rattle.std.proofs.lemmas.Str.{digit_value_digit}
use Rattle.std.proofs.lemmas.Str.Parse.{digit_from_value}
use Rattle.text_num.specs.Decimal.{IsNumeralUpTo}
use Rattle.text_num.proofs.Digits.{digits_model, test-from_AllDigits, digits_value-below}
use Rattle.bound_log.specs.Grammar.{number_bound, IsNumberText, IsShortNumeral}

-- a number of at most 19 digits fits the code's numbers
fits : (n : ℕ) → n < number_bound → n < 2 ^ 64
fits n small = omega arith

pub decimal-value : (n : ℕ) → n < number_bound → digits_value 10 (decimal n) ≡ n
decimal-value n small = (decimal_is_IsNumeral n (fits n small)).1

pub decimal-digits : (n : ℕ) → n < number_bound → AllDigits 10 (decimal n)
decimal-digits n small = (decimal_is_IsNumeral n (fits n small)).0.1

-- a number is told by its text
pub decimal-apart : (m n : ℕ) → m < number_bound → n < number_bound → decimal m ≡ decimal n → m ≡ n
decimal-apart m n small also same = sym (decimal-value m small) ∙ ap (digits_value 10) same ∙ decimal-value n also

-- each byte of a number is a digit
digit_bytes : (ds : List ℕ) → AllDigits 10 ds → AllByRecursion (IsInRange 48 57) ds
digit_bytes [] all = tt
digit_bytes (d ∷ ds) all = (digit_from_value d all.0, digit_bytes ds all.1)

pub decimal-bytes : (n : ℕ) → n < number_bound → All (IsInRange 48 57) (decimal n)
decimal-bytes n small = All-from_recursion (IsInRange 48 57) (decimal n) (digit_bytes (decimal n) (decimal-digits n small))

-- ---- numerals

numeral_parts : (c : ℕ) (rest : List ℕ) (n : ℕ) → c ∷ rest ≡ decimal n → n < number_bound → IsShortNumeral (c ∷ rest)
numeral_parts c rest zero same small =
    let one : decimal zero ≡ (48 + zero) ∷ [] = decimal_digit zero (omega arith) in
    let both : c ∷ rest ≡ 48 ∷ [] = same ∙ one in
    inl (cc, cc)
numeral_parts c rest (suc n) same small =
    let first : 48 < get_or (decimal (suc n)) 0 0 = first_decimal (suc n) (omega arith) (fits (suc n) small) in
    let above : 48 < c = subst (λ ds. 48 < get_or ds 0 0) (sym same) first in
    let digits : AllDigits 10 (c ∷ rest) = subst (AllDigits 10) (sym same) (decimal-digits (suc n) small) in
    let digit : IsInRange 48 57 c = digit_from_value c digits.0 in
    let few : length (c ∷ rest) ≤ 19 = subst (λ ds. length ds ≤ 19) (sym same) (length-decimal-le 19 (suc n) (omega arith) small (fits (suc n) small)) in
    inr ((omega arith, digit.1), digits.1, omega arith)

-- the text of a number is a numeral
pub numeral_of : (text : List ℕ) (n : ℕ) → IsNumberText text n → IsShortNumeral text
numeral_of [] n number =
    let some : 0 < length (decimal n) = decimal_nonempty n (fits n number.size) in
    let none : 0 ≡ length (decimal n) = ap length number.spelled in
    absurd (omega arith)
numeral_of (c ∷ rest) n number = numeral_parts c rest n number.spelled number.size

pub value_of_number : (text : List ℕ) (n : ℕ) → IsNumberText text n → n ≡ digits_value 10 text
value_of_number text n number = sym (decimal-value n number.size) ∙ ap (digits_value 10) (sym number.spelled)

-- a numeral is digits, at most 19 of them
pub numeral_digits : (text : List ℕ) → IsShortNumeral text → AllDigits 10 text × (0 < length text) × (length text ≤ 19) × (get_or text 0 0 ≡ 48 → length text ≡ 1)
numeral_digits [] numeral = absurd numeral
numeral_digits (c ∷ rest) (inl alone) =
    let one : length (c ∷ rest) ≡ 1 = ap (λ ds. length (c ∷ ds)) alone.1 in
    (subst (AllDigits 10) (sym (ap (λ ds. c ∷ ds) alone.1 ∙ ap (λ d. d ∷ []) alone.0)) (omega arith, tt), omega arith, omega arith, λ is. one)
numeral_digits (c ∷ rest) (inr more) =
    let first : digit_value c + 48 ≡ c = digit_value_digit c (omega (arith, more.0), omega (arith, more.0)) in
    ((omega (arith, more.0), more.1), omega arith, omega (arith, more.2), λ is. absurd (omega (arith, more.0)))

-- a numeral is the text of its value
pub number_of_numeral : (text : List ℕ) → IsShortNumeral text → IsNumberText text (digits_value 10 text)
number_of_numeral text numeral =
    let parts = numeral_digits text numeral in
    let size : digits_value 10 text < 10 ^ 19 = digits_value-below text 19 parts.0 parts.2 in
    record {
      spelled = sym (decimal-digits_value digits_model text (test-from_AllDigits text parts.0) parts.1 parts.3 (fits (digits_value 10 text) size));
      size = size;
    }

-- ---- how the code reads a number

-- digits are a numeral unless a zero stands at their front before others
pub numeral_from : (text : List ℕ) → IsNumeralUpTo 19 text → ((1 < length text) × (get_or text 0 0 ≡ 48) → ⊥) → IsShortNumeral text
numeral_from [] digits alone = absurd (omega (arith, digits.some))
numeral_from (c ∷ []) digits alone =
    let first : IsInRange 48 57 c = digit_from_value c digits.only_digits.0 in
    elim (eq-or-lt_of_le first.0) [
      | inl zero_first ↦ inl (sym zero_first, refl)
      | inr above ↦ inr ((omega (arith, above), first.1), digits.only_digits.1, omega (arith, digits.few))
    ]
numeral_from (c ∷ d ∷ rest) digits alone =
    let first : IsInRange 48 57 c = digit_from_value c digits.only_digits.0 in
    elim (eq-or-lt_of_le first.0) [
      | inl zero_first ↦ absurd (alone (omega arith, sym zero_first))
      | inr above ↦ inr ((omega (arith, above), first.1), digits.only_digits.1, omega (arith, digits.few))
    ]

-- what is read is the number
pub number_read : (text : List ℕ) (found : Option ℕ) → IfSome found (λ value. IsNumeralUpTo 19 text × (value ≡ digits_value 10 text)) → ((1 < length text) × (get_or text 0 0 ≡ 48) → ⊥) → IfSome found (λ number. IsNumberText text number)
number_read text None is alone = tt
number_read text (Some value) is alone = subst (IsNumberText text) (sym is.1) (number_of_numeral text (numeral_from text is.0 alone))

-- what isn't read is no number
pub no_number : (text : List ℕ) (found : Option ℕ) → IfNone found (IsNumeralUpTo 19 text → ⊥) → IfNone found ((number : ℕ) → IsNumberText text number → ⊥)
no_number text (Some value) other = tt
no_number text None other = λ number is.
    let parts = numeral_digits text (numeral_of text number is) in
    other (record { only_digits = parts.0; some = omega (arith, parts.1); few = parts.2 })

-- a zero before other digits begins no number
pub no_leading_zero : (text : List ℕ) → (1 < length text) × (get_or text 0 0 ≡ 48) → (number : ℕ) → IsNumberText text number → ⊥
no_leading_zero text zero_first number is =
    let parts = numeral_digits text (numeral_of text number is) in
    let one : length text ≡ 1 = parts.3 zero_first.1 in
    absurd (omega (arith, zero_first.0))
