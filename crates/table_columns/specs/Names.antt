-- Names of records, as of points and of candidates. This project's own.
use Rattle.std.specs.Prelude.{ℕ, List, length, Bool, not, ◌&&◌, ◌==◌, nat_le, Option, position}
use Rattle.std.specs.List.{list_all, list_any}
use Rattle.std.specs.Str.{bytes_eq, is_utf8}

-- whether a byte may stand in a name: it is not below 20 hexadecimal, not 7F, no comma and no double quote
abbrev pub is_name_byte : ℕ → Bool
is_name_byte byte = nat_le 0x20 byte && not (byte == 0x7F) && not (byte == 0x2C) && not (byte == 0x22)

-- whether a text is a name: 1 to 32 bytes of UTF-8, each of which may stand in a name
unfoldable pub is_name : List ℕ → Bool
is_name text = nat_le 1 (length text) && nat_le (length text) 32 && list_all is_name_byte text && is_utf8 text

-- whether a name is among others, by its bytes
unfoldable pub is_among : List ℕ → List (List ℕ) → Bool
is_among name names = list_any (bytes_eq name) names

-- the place, counted from 0, of the first of some names that is this one
unfoldable pub place_of : List ℕ → List (List ℕ) → Option ℕ
place_of name names = position (bytes_eq name) names
