-- Whole division that rounds down, and whether it left something over. The floor of a fraction is the usual one.
use Rattle.std.specs.Prelude.{zero, suc, Bool, true, false, cond, ℤ, pos, negsuc, ◌+ℤ◌, unsigned_abs}
use Rattle.std.specs.Int.{int_div_euclid, int_rem_euclid}

abbrev pub is_zero : ℤ → Bool
is_zero (pos zero) = true
is_zero (pos (suc n)) = false
is_zero (negsuc n) = false

-- the size of z, without its sign
abbrev pub size_of : ℤ → ℤ
size_of z = pos (unsigned_abs z)

-- the greatest whole number that is at most n / a, for a above 0
abbrev pub floor_over : ℤ → ℤ → ℤ
floor_over a n = int_div_euclid n a

-- 1 where a doesn't divide n, else 0
abbrev pub gap_over : ℤ → ℤ → ℤ
gap_over a n = cond (is_zero (int_rem_euclid n a)) (pos 0) (pos 1)

-- the least whole number that is at least n / a, for a above 0
abbrev pub ceil_over : ℤ → ℤ → ℤ
ceil_over a n = floor_over a n +ℤ gap_over a n
