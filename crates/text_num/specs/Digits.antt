-- A whole number of a few digits, zeros at its front among them. The format is this project's own.
use Rattle.std.specs.Prelude.{ℕ, List, length, Bool, ◌&&◌, nat_le, if◌then◌else◌, Option, Some, None}
use Rattle.std.specs.Char.{is_ascii_digit}
use Rattle.std.specs.List.{list_all}
use Rattle.std.specs.Str.Parse.{digits_value}

-- whether a text is 1 to `most` digits, and nothing else
unfoldable pub is_digits : ℕ → List ℕ → Bool
is_digits most text = nat_le 1 (length text) && nat_le (length text) most && list_all is_ascii_digit text

-- the number that 1 to `most` digits write, and None for any other text
unfoldable pub digits_of : ℕ → List ℕ → Option ℕ
digits_of most text = if is_digits most text then Some (digits_value 10 text) else None
