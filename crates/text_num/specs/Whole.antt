-- The text of a whole number: its decimal digits without a leading zero, after `-` where it is negative.
-- It is the text that Rust writes for a number; the words for it are this project's own.
use Rattle.std.specs.Prelude.{◌≡◌, ℕ, suc, ℤ, pos, negsuc, List, ◌∷◌, ◌⊎◌}
use Rattle.std.specs.Int.{IsInRange}
use Rattle.std.specs.Fmt.{decimal}
use Rattle.text_num.specs.Bytes.{minus_byte, nine_byte, zero_byte}

unfoldable pub whole_text : ℤ → List ℕ
whole_text (pos n) = decimal n
whole_text (negsuc n) = minus_byte ∷ decimal (suc n)

-- the byte is a digit or `-`
abbrev pub IsDigitOrMinus : ℕ → Type 0
IsDigitOrMinus c = IsInRange zero_byte nine_byte c ⊎ (c ≡ minus_byte)
