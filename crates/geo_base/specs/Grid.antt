-- Division by a power of two, and the exponent that brings a number to between 2 ^ 58 and 2 ^ 60.
-- The powers are this project's own choice.
use Rattle.std.specs.Prelude.{◌≡◌, suc, ◌+◌, ◌-◌, ◌*◌, ◌/◌, ◌^◌, ⊤, ℤ, pos, negsuc, ◌-ℤ◌, ◌*ℤ◌, ◌≤ℤ◌, ◌<ℤ◌}
use Rattle.std.specs.Int.{leading_zeros, w128}
use Rattle.geo_base.specs.Division.{IsFloor, floor_of}

-- n / 2 ^ e rounded down
unfoldable pub shift_of : ℤ → ℤ → ℤ
shift_of n (pos k) = floor_of n (pos (2 ^ k))
shift_of n (negsuc k) = n *ℤ pos (2 ^ suc k)

-- q is n / 2 ^ e rounded down
abbrev pub IsShifted : ℤ → ℤ → ℤ → Type 0
IsShifted n (pos k) q = IsFloor n (pos (2 ^ k)) q
IsShifted n (negsuc k) q = q ≡ n *ℤ pos (2 ^ suc k)

-- n / 2 ^ e is a whole number
abbrev pub IsWholeShift : ℤ → ℤ → Type 0
IsWholeShift n (pos k) = (q : ℤ) × (n ≡ q *ℤ pos (2 ^ k))
IsWholeShift n (negsuc k) = ⊤

-- v * 2 ^ (-2 e) lies from 2 ^ 58 up to below 2 ^ 60
abbrev pub IsExponent : ℤ → ℤ → Type 0
IsExponent v (pos k) = (pos (2 ^ (58 + 2 * k)) ≤ℤ v) × (v <ℤ pos (2 ^ (60 + 2 * k)))
IsExponent v (negsuc k) = (pos (2 ^ 58) ≤ℤ (v *ℤ pos (2 ^ (2 * suc k)))) × ((v *ℤ pos (2 ^ (2 * suc k))) <ℤ pos (2 ^ 60))

-- the exponent of v above 0: half the number of its binary digits, rounded up, less 30; otherwise 0
unfoldable pub exponent_of : ℤ → ℤ
exponent_of (pos (suc n)) = pos ((129 - leading_zeros w128 (suc n)) / 2) -ℤ pos 30
exponent_of _ = pos 0
