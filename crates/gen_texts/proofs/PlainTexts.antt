-- Texts that stand in a table as they are: each byte is from 45 to 126, so none is a space, a quote, a comma or a line's end.
use Rattle.std.proofs.Common.{◌≡◌, ◌∙◌, ◌<◌, ◌≤◌, ℕ, zero, suc, Bool, true, false, List, [], ◌∷◌, ◌++◌, ◌==◌, refl, ap, arith, inl, inr}
use Rattle.std.specs.Prelude.{nat_le, ◌&&◌}
use Rattle.std.specs.List.{AllByRecursion, list_all, list_any}
use Rattle.std.specs.Str.{IsAscii, is_utf8}
use Rattle.std.specs.Str.Parse.{AllDigits}
use Rattle.std.proofs.lemmas.Bool.{and_parts, ne_eqb}
use Rattle.std.proofs.lemmas.Bool.Decides.{nat_tests}
use Rattle.std.proofs.lemmas.Str.{IsUtf8-from_ascii, is_utf8-from_IsUtf8}
use Rattle.csv.specs.Writing.{default_writer, needs_byte}
use Rattle.text_num.specs.Whole.{IsDigitOrMinus}
use Rattle.text_num.proofs.WholeText.{digit_bytes}
use Rattle.table_rows.specs.FieldText.{field_text, without_back_spaces, without_front_spaces}

-- a byte that stands as it is
pub record IsPlainByte (b : ℕ) : Type 0 where
  pub low : 45 ≤ b
  pub high : b ≤ 126

abbrev pub IsPlain : List ℕ → Type 0
IsPlain text = AllByRecursion IsPlainByte text

-- the same as a test
abbrev pub is_plain_byte : ℕ → Bool
is_plain_byte b = nat_le 45 b && nat_le b 126

byte-tested : (b : ℕ) → is_plain_byte b ≡ true → IsPlainByte b
byte-tested b e =
    let parts = and_parts (nat_le 45 b) (nat_le b 126) e in
    record { low = low-tested b parts.0; high = high-tested b parts.1 }
  where
    low-tested : (b : ℕ) → nat_le 45 b ≡ true → 45 ≤ b
    low-tested b e = grind (arith, nat_tests)

    high-tested : (b : ℕ) → nat_le b 126 ≡ true → b ≤ 126
    high-tested b e = grind (arith, nat_tests)

pub plain-tested : (text : List ℕ) → list_all is_plain_byte text ≡ true → IsPlain text
plain-tested [] e = tt
plain-tested (b ∷ text) e =
    let parts = and_parts (is_plain_byte b) (list_all is_plain_byte text) e in
    (byte-tested b parts.0, plain-tested text parts.1)

pub plain-append : (a b : List ℕ) → IsPlain a → IsPlain b → IsPlain (a ++ b)
plain-append [] b p q = q
plain-append (c ∷ a) b (here, p) q = (here, plain-append a b p q)

-- digits are plain
pub plain-digits : (ds : List ℕ) → AllDigits 10 ds → IsPlain ds
plain-digits ds digits = each ds (digit_bytes ds digits)
  where
    byte : (c : ℕ) → IsDigitOrMinus c → IsPlainByte c
    byte c (inl h) = record { low = omega arith; high = omega arith }
    byte c (inr e) = record { low = omega arith; high = omega arith }

    each : (ds : List ℕ) → AllByRecursion IsDigitOrMinus ds → IsPlain ds
    each [] all = tt
    each (c ∷ ds) (here, all) = (byte c here, each ds all)

-- ---- no byte calls for quotes

other : (b n : ℕ) → IsPlainByte b → (n < 45) → (b == n) ≡ false
other b n is low = ne_eqb b n (λ e. apart b n is.low low e)
  where
    apart : (b n : ℕ) → 45 ≤ b → n < 45 → b ≡ n → ⊥
    apart b n h k e = omega arith

byte-bare : (b : ℕ) → IsPlainByte b → needs_byte default_writer b ≡ false
byte-bare b is =
    let comma = other b 44 is (omega arith) in
    let quote = other b 34 is (omega arith) in
    let return = other b 13 is (omega arith) in
    let feed = other b 10 is (omega arith) in
    rw (comma, quote, return, feed) refl

pub plain-bare : (text : List ℕ) → IsPlain text → list_any (needs_byte default_writer) text ≡ false
plain-bare [] all = refl
plain-bare (b ∷ text) (here, all) = rw (byte-bare b here) (plain-bare text all)

-- ---- no byte is a space

back-plain : (text : List ℕ) → IsPlain text → without_back_spaces text ≡ text
unfolding without_back_spaces
back-plain [] all = refl
back-plain (b ∷ []) (here, all) = rw (other b 32 here (omega arith)) refl
back-plain (b ∷ c ∷ text) (here, all) = rw (back-plain (c ∷ text) all) refl

front-plain : (text : List ℕ) → IsPlain text → without_front_spaces text ≡ text
unfolding without_front_spaces
front-plain [] all = refl
front-plain (b ∷ text) (here, all) = rw (other b 32 here (omega arith)) refl

pub plain-field : (text : List ℕ) → IsPlain text → field_text text ≡ text
unfolding field_text
plain-field text all = ap without_back_spaces (front-plain text all) ∙ back-plain text all

-- ---- each byte is ASCII

ascii : (text : List ℕ) → IsPlain text → IsAscii text
ascii [] all i = omega arith
ascii (b ∷ text) (here, all) zero = small b here
  where
    small : (b : ℕ) → IsPlainByte b → b < 128
    small b is = omega arith
ascii (b ∷ text) (here, all) (suc i) = ascii text all i

pub plain-utf8 : (text : List ℕ) → IsPlain text → is_utf8 text ≡ true
plain-utf8 text all = is_utf8-from_IsUtf8 text (IsUtf8-from_ascii text (ascii text all))

pub texts-utf8 : (row : List (List ℕ)) → AllByRecursion IsPlain row → list_all is_utf8 row ≡ true
texts-utf8 [] all = refl
texts-utf8 (text ∷ row) (here, all) = rw (plain-utf8 text here) (texts-utf8 row all)
