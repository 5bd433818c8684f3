-- The bytes of a number but for the digits from 1 to 9, in ASCII (RFC 20).
use Rattle.std.specs.Prelude.{ℕ}

abbrev pub plus_byte : ℕ
plus_byte = 0x2B

abbrev pub minus_byte : ℕ
minus_byte = 0x2D

abbrev pub point_byte : ℕ
point_byte = 0x2E

abbrev pub zero_byte : ℕ
zero_byte = 0x30

abbrev pub nine_byte : ℕ
nine_byte = 0x39
